-- The source of one function that returns is assembled.
use Rattle.std.proofs.Common.{◌≡◌, true, [], Ok, All, refl, arith}
use Rattle.std.proofs.lemmas.List.Elements.{All-nil, All-cons}
use Rattle.std.specs.Fmt.{digits}
use Rattle.cfi_text.specs.Decimal.{number_in, small_number_in}
use Rattle.cfi_text.specs.Names.{is_name}
use Rattle.cfi_text.specs.Words.{words_in}
use Rattle.elf_write.specs.File.{bytes_of}
use Rattle.cfi_aux.specs.declared.records.Kind.TheVariants.{Return}
use Rattle.rv_line.specs.Keyword.{called}
use Rattle.rv_line.specs.Number.{integer_in}
use Rattle.rv_line.specs.Operand.{cut, operands_in}
use Rattle.rv_line.specs.Statement.{form_of}
use Rattle.rv_asm.specs.Assembled.{object_in}
use Rattle.cfi_commands.specs.Assembling.{IsAssembled}
use Rattle.cfi_file_law.specs.Source.{has_records, source_records, IsFew}
use Rattle.cfi_file_law.specs.SourceExample.{return_source, return_object}

made : object_in return_source ≡ Ok return_object
unfolding digits number_in small_number_in is_name words_in called integer_in cut operands_in form_of
made = refl

pub assembled : IsAssembled return_source (bytes_of return_object)
assembled = record { object = return_object; is = made; written = refl }

pub with-records : has_records return_source ≡ true
unfolding digits number_in small_number_in is_name words_in called integer_in cut operands_in form_of
with-records = refl

pub few : All IsFew (source_records return_source).branches
unfolding digits number_in small_number_in is_name words_in called integer_in cut operands_in form_of
few = All-cons IsFew Return [] (omega arith) (All-nil IsFew)
