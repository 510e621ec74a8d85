-- The files of the examples are short enough to be read.
use Rattle.std.proofs.Common.{◌≡◌, ℕ, List, true, length, nat_le, refl, arith}
use Rattle.std.proofs.lemmas.Bool.Decides.{nat_tests}
use Rattle.elf_write.specs.Contents.{name_table, symbol_entry, symbol_name_place, null_entry, symbol_table, rela_entry, relas_of}
use Rattle.elf_write.specs.File.{padding, padded, section_place, part_header, file_header, bytes_of}
use Rattle.cfi_word.specs.declared.limits.TheConstants.{MAX_FILE_BYTES}
use Rattle.cfi_request.specs.Reading.{IsShort}
use Rattle.cfi_file_law.specs.Example.{call_made}
use Rattle.cfi_file_law.specs.LinkedExample.{linked_output}
use Rattle.cfi_file_law.specs.SourceExample.{return_object}

few-bytes : (bytes : List ℕ) → nat_le (length bytes) MAX_FILE_BYTES ≡ true → IsShort bytes
few-bytes bytes is = grind (arith, nat_tests)

pub made-short : IsShort (bytes_of call_made.object)
unfolding name_table symbol_entry symbol_name_place null_entry symbol_table rela_entry relas_of padding padded section_place part_header file_header bytes_of
made-short = few-bytes (bytes_of call_made.object) refl

pub linked-short : IsShort (bytes_of linked_output.object)
unfolding name_table symbol_entry symbol_name_place null_entry symbol_table rela_entry relas_of padding padded section_place part_header file_header bytes_of
linked-short = few-bytes (bytes_of linked_output.object) refl

pub return-short : IsShort (bytes_of return_object)
unfolding name_table symbol_entry symbol_name_place null_entry symbol_table rela_entry relas_of padding padded section_place part_header file_header bytes_of
return-short = few-bytes (bytes_of return_object) refl
