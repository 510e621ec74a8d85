-- The limits on an object.
use Rattle.std.specs.Prelude.{◌*◌, ◌<◌, ◌≤◌, ◌^◌, length, All}
use Rattle.cfi_word.specs.declared.limits.TheConstants.{MAX_SYMBOLS, MAX_RELOCS, MAX_WORDS, MAX_DATA, MAX_NAME}
use Rattle.elf_read.specs.declared.object.Object.{Object}
use Rattle.elf_write.specs.declared.limits.TheConstants.{MAX_TYPES, MAX_RECORDS}
use Rattle.elf_write.specs.Contents.{info_of}
use Rattle.elf_write.specs.File.{bytes_or_none}

-- text, data, symbols, relocations, types and records are not too many, no name is too long, and each info fits a word
pub record IsWithinLimits (object : Object) : Type 0 where
  pub text : length object.text ≤ 4 * MAX_WORDS
  pub static_data : length object.static_data ≤ MAX_DATA
  pub symbols : length object.symbols ≤ MAX_SYMBOLS
  pub relocs : length object.relocs ≤ MAX_RELOCS
  pub types : length (bytes_or_none object.types) ≤ MAX_TYPES
  pub records : length (bytes_or_none object.records) ≤ MAX_RECORDS
  pub names : All (λ symbol. length symbol.name ≤ MAX_NAME) object.symbols
  pub infos : All (λ reloc. info_of reloc < 2 ^ 32) object.relocs
