-- The module that several make: joined in order, with one definition of each name.
use Rattle.std.specs.Prelude.{◌≡◌, ℕ, ◌<◌, ◌^◌, List, length, All, Some, Ok}
use Rattle.std.specs.List.{flat_map}
use Rattle.elf_read.specs.declared.object.Symbol.{Symbol}
use Rattle.elf_read.specs.declared.object.Reloc.{Reloc}
use Rattle.cfi_type_table.specs.Spelling.{word, spelling as types_spelling}
use Rattle.cfi_aux.specs.Records.{CanBeWritten, spelling as records_spelling}
use Rattle.cfi_aux.specs.Sound.{IsSoundModule}
use Rattle.cfi_aux.specs.declared.modules.Module.{Module}
use Rattle.cfi_place.specs.Placed.{bytes_as_words}
use Rattle.cfi_place.specs.Slots.{HasSlots}
use Rattle.cfi_link.specs.Joined.{Joined, joined_of}
use Rattle.cfi_link.specs.Chosen.{chosen_in, settled, in_order, numbers_of, reaches_of}
use Rattle.cfi_link.specs.Applied.{kept_in, by_area}
use Rattle.cfi_link.specs.Fault.{CanBeLinked, relocated_by}

-- modules that break no rule; their number, the bytes of each text and the lengths in their records have words of four
-- bytes
pub record AreModules (modules : List Module) : Type 0 where
  pub count : length modules < 2 ^ 32
  pub sound : All IsSoundModule modules
  pub texts : All (λ m. length m.object.text < 2 ^ 32) modules
  pub written : All (λ m. CanBeWritten m.records) modules

-- the symbols: the definitions that lose are references, and local symbols come first
abbrev pub kept_symbols : Joined → List Symbol
kept_symbols joined = in_order (settled (chosen_in joined.symbols) joined.symbols)

-- the relocations: those that are not applied, by the new numbers of symbols
abbrev pub kept_relocs : Joined → List Reloc
kept_relocs joined =
    by_area (kept_in (reaches_of (chosen_in joined.symbols) joined.symbols) (numbers_of joined.symbols) joined.relocs)

-- the bytes are those of words that its relocations make of the joined text, whose checks name the slots from 0 on
pub record IsTextOf (joined : Joined) (bytes : List ℕ) : Type 0 where
  pub applied : List ℕ
  pub relocated : relocated_by joined ≡ Ok applied
  pub size : length applied ≡ length joined.text
  pub words : List ℕ
  pub slots : HasSlots (bytes_as_words joined.text) 0 (bytes_as_words applied) words
  pub spelled : bytes ≡ flat_map word words

-- the output has what joined modules make
pub record IsMadeOf (joined : Joined) (output : Module) : Type 0 where
  pub text : IsTextOf joined output.object.text
  pub static_data : output.object.static_data ≡ joined.static_data
  pub symbols : output.object.symbols ≡ kept_symbols joined
  pub relocs : output.object.relocs ≡ kept_relocs joined
  pub types : output.types ≡ joined.types
  pub functions : output.records.functions ≡ joined.functions
  pub branches : output.records.branches ≡ joined.branches
  pub types_spelled : output.object.types ≡ Some (types_spelling output.types)
  pub records_spelled : output.object.records ≡ Some (records_spelling output.records)

-- the output is linked of the modules
pub record Linked (modules : List Module) (output : Module) : Type 0 where
  pub possible : CanBeLinked modules
  pub made : IsMadeOf (joined_of modules) output
