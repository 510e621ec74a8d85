-- What the instrumented module of a module is, and the first fault of a module that has none.
use Rattle.std.specs.Prelude.{◌≡◌, ℕ, ◌<◌, ◌≤◌, List, Bool, map, Some}
use Rattle.std.specs.List.{flat_map}
use Rattle.elf_read.specs.declared.object.Object.{Object}
use Rattle.cfi_unit.specs.Code.{UnitCode}
use Rattle.cfi_type_table.specs.Spelling.{word}
use Rattle.cfi_type_table.specs.Spelling as types
use Rattle.cfi_aux.specs.declared.modules.Module.{Module}
use Rattle.cfi_aux.specs.declared.records.Records.{Records}
use Rattle.cfi_aux.specs.Records as records
use Rattle.cfi_instr.specs.declared.fault.InstrFault.{InstrFault}
use Rattle.cfi_instr.specs.declared.fault.InstrFault.TheVariants as faults
use Rattle.cfi_instr.specs.Words.{read_words, count_of}
use Rattle.cfi_instr.specs.Fault.{input_of, IsInstrumentable, IsFirstFlaw}
use Rattle.cfi_instr.specs.declared.sizes.TheConstants.{MAX_WORDS}
use Rattle.cfi_instr.specs.Sizes.{words_before, offsets_of}
use Rattle.cfi_instr.specs.Reach.{IsLeast, IsEnough}
use Rattle.cfi_instr.specs.Units.{units_of}
use Rattle.cfi_instr.specs.Moves.{moved_symbol, moved_reloc, moved_function, moved_kind}

-- which branches are long, and where each word's unit goes
pub record IsLayout (m : Module) (long : List Bool) (offsets : List ℕ) : Type 0 where
  pub least : IsLeast (read_words m.object) m.object.symbols long
  pub placed : offsets ≡ offsets_of (read_words m.object) long

-- the text is the units of the items, in order
pub record IsText (m : Module) (long : List Bool) (offsets : List ℕ) (text : List ℕ) : Type 0 where
  pub words : List ℕ
  pub units : UnitCode words (units_of (read_words m.object) m.object.symbols long offsets)
  pub bytes : text ≡ flat_map word words

-- the records are those of the input, moved
pub record AreMoved (m : Module) (offsets : List ℕ) (r : Records) : Type 0 where
  pub functions : r.functions ≡ map (moved_function (read_words m.object) offsets) m.records.functions
  pub branches : r.branches ≡ map (moved_kind (read_words m.object) offsets) m.records.branches

-- the object: its text is new, its data is kept, symbols and relocations are moved, and its two sections spell the
-- types and the new records
pub record IsObject (m : Module) (long : List Bool) (offsets : List ℕ) (r : Records) (object : Object) : Type 0 where
  pub text : IsText m long offsets object.text
  pub static_data : object.static_data ≡ m.object.static_data
  pub symbols : object.symbols ≡ map (moved_symbol (read_words m.object) offsets) m.object.symbols
  pub relocs : object.relocs
      ≡ map (moved_reloc (read_words m.object) m.object.symbols long offsets) m.object.relocs
  pub types : object.types ≡ Some (types.spelling m.types)
  pub records : object.records ≡ Some (records.spelling r)

-- the second module is the first one, instrumented, which has no fault
pub record IsInstrumented (m out : Module) : Type 0 where
  pub sound : IsInstrumentable (input_of m)
  pub long : List Bool
  pub offsets : List ℕ
  pub plan : IsLayout m long offsets
  pub fits : words_before (read_words m.object) long (count_of (read_words m.object)) ≤ MAX_WORDS
  pub object : IsObject m long offsets out.records out.object
  pub types : out.types ≡ m.types
  pub records : AreMoved m offsets out.records

-- the output would be too long with the least set of long branches, and so with every set that is enough
pub record IsTooLong (m : Module) : Type 0 where
  pub sound : IsInstrumentable (input_of m)
  pub passed : (long : List Bool) → IsEnough (read_words m.object) m.object.symbols long
      → MAX_WORDS < words_before (read_words m.object) long (count_of (read_words m.object))

-- the first fault of a module, unless memory ran out
abbrev pub IsFirstInstrFault : (m : Module) → InstrFault → Type 0
IsFirstInstrFault m faults.TooLong = IsTooLong m
IsFirstInstrFault m fault = IsFirstFlaw (input_of m) fault
