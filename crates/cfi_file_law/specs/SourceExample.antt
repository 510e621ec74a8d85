-- A source with records, of one function, which returns, and the object that it makes:
--     .node void
--     .node func 0
--     .func f 1
--     ret
--     .endfunc
use Rattle.std.specs.Prelude.{ℕ, false, List, [], ◌∷◌, ◌++◌, Some, codes}
use Rattle.elf_read.specs.declared.object.Object.{Object}
use Rattle.cfi_type_table.specs.Spelling as types
use Rattle.cfi_aux.specs.Records as records
use Rattle.cfi_aux.specs.declared.records.Kind.TheVariants.{Return}
use Rattle.cfi_aux.specs.declared.records.Records.{Records}
use Rattle.cfi_file_law.specs.Example.{call_name, call_symbol, call_types}

-- the source, line by line
abbrev pub return_source : List ℕ
return_source =
    codes ".node void" ++ 10 ∷ codes ".node func 0" ++ 10 ∷ codes ".func f 1" ++ 10 ∷ codes "ret" ++ 10
    ∷ codes ".endfunc"

-- its records
abbrev pub return_records : Records
return_records = record {
  functions = record { offset = 0; length = 4; ty = 1; taken = false; name = call_name } ∷ [];
  branches = Return ∷ [];
}

-- its one word is `jalr x0,0(x1)`
abbrev pub return_object : Object
return_object = record {
  text = 0x67 ∷ 0x80 ∷ 0x00 ∷ 0x00 ∷ [];
  static_data = [];
  symbols = call_symbol ∷ [];
  relocs = [];
  types = Some (types.spelling call_types);
  records = Some (records.spelling return_records);
}
