-- What making stubs takes for granted, and what is made.
use Rattle.std.specs.Prelude.{◌≡◌, ℕ, ◌++◌, ◌<◌, ◌≤◌, ◌^◌, List, length, map, All, Option, Some}
use Rattle.std.specs.List.{enumerate_from}
use Rattle.elf_read.specs.Places.{joined}
use Rattle.elf_read.specs.declared.object.Object.{Object}
use Rattle.cfi_type_table.specs.Node.{Node}
use Rattle.cfi_type_table.specs.Spelling.{spelling as types_spelling}
use Rattle.cfi_aux.specs.Records.{CanBeWritten, spelling as records_spelling}
use Rattle.cfi_aux.specs.declared.modules.Module.{Module}
use Rattle.cfi_aux.specs.declared.records.Records.{Records}
use Rattle.cfi_import.specs.declared.start.Start.{Start}
use Rattle.cfi_import.specs.Start.{start_of}
use Rattle.cfi_import.specs.Stubs.{stub_bytes, stub_nodes, stub_function, stub_kind}
use Rattle.cfi_import.specs.Stubbed.{with_cells, with_symbols, with_relocs}
use Rattle.cfi_import.specs.inner.Room.{HasRoom, IsPlace, IsSmallNumber}

-- stubs of these names go into the object, and `find` says the place of the import that has a number
pub record IsReady (object : Object) (start : Start) (find : ℕ → Option ℕ) : Type 0 where
  pub room : HasRoom start
  pub symbols : start.symbols ≤ length object.symbols
  pub static_data : length object.static_data < 2 ^ 31
  pub places : (k : ℕ) → IsPlace start (find k)
  pub numbers : All (λ reloc. IsSmallNumber reloc.symbol) object.relocs

-- types and records that can be written
pub record AreWritable (types : List Node) (records : Records) : Type 0 where
  pub count : length types < 2 ^ 32
  pub fields : All (λ x. length x.fields < 2 ^ 32) types
  pub written : CanBeWritten records

-- records with those of stubs
pub record AreRecordsWith (start : Start) (names : List (List ℕ)) (old new : Records) : Type 0 where
  pub functions : new.functions ≡ old.functions ++ map (stub_function start) (enumerate_from 0 names)
  pub branches : new.branches ≡ old.branches ++ map (stub_kind start) (enumerate_from 0 names)

-- an object with stubs, whose sections spell these types and records
pub record IsObjectWith (start : Start) (find : ℕ → Option ℕ) (types : List Node) (records : Records)
    (old new : Object) : Type 0 where
  pub text : new.text ≡ old.text ++ joined (λ place. stub_bytes) start.count
  pub static_data : new.static_data ≡ with_cells start.count old.static_data
  pub symbols : new.symbols ≡ with_symbols start old.symbols
  pub relocs : new.relocs ≡ with_relocs start find old.relocs
  pub types_spelled : new.types ≡ Some (types_spelling types)
  pub records_spelled : new.records ≡ Some (records_spelling records)
