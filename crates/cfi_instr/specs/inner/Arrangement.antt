-- How a module's text is arranged in the output.
use Rattle.std.specs.Prelude.{◌≡◌, ℕ, Bool, List, Option}
use Rattle.elf_read.specs.declared.object.Symbol.{Symbol}
use Rattle.elf_read.specs.declared.object.Reloc.{Reloc}
use Rattle.rv_insn.specs.declared.insn.Insn.{Insn}
use Rattle.cfi_unit.specs.declared.unit.Unit.{Unit as CodeUnit}
use Rattle.cfi_aux.specs.declared.modules.Module.{Module}
use Rattle.cfi_instr.specs.Words.{Words, read_words}
use Rattle.cfi_instr.specs.Units.{insn_units, units_at, units_of, AllSpell}
use Rattle.cfi_instr.specs.Moves.{moved_reloc}

-- what is read of a text, its symbols, whether each word is a long branch, and where each word's unit begins
pub record Arrangement : Type 0 where
  pub source : Words
  pub symbols : List Symbol
  pub long : List Bool
  pub offsets : List ℕ

-- the arrangement of these
abbrev pub arrangement_by : Words → List Symbol → (long : List Bool) → (offsets : List ℕ) → Arrangement
arrangement_by t symbols long offsets = record { source = t; symbols = symbols; long = long; offsets = offsets }

-- the units of an instruction at a word
abbrev pub insn_units_by : Arrangement → (w : ℕ) → Option Insn → List CodeUnit
insn_units_by a = insn_units a.source a.symbols a.long a.offsets

-- the units of the item that begins at the word
abbrev pub units_at_by : Arrangement → (w : ℕ) → List CodeUnit
units_at_by a = units_at a.source a.symbols a.long a.offsets

-- the units of all items, in order
abbrev pub units_by : Arrangement → List CodeUnit
units_by a = units_of a.source a.symbols a.long a.offsets

-- the units of each item have a spelling
abbrev pub AllSpellBy : Arrangement → Type 0
AllSpellBy a = AllSpell a.source a.symbols a.long a.offsets

-- what becomes of a relocation
abbrev pub moved_reloc_by : Arrangement → Reloc → Reloc
moved_reloc_by a = moved_reloc a.source a.symbols a.long a.offsets

-- it is one of the module's text
pub record IsArrangementOf (m : Module) (a : Arrangement) : Type 0 where
  pub source : a.source ≡ read_words m.object
  pub symbols : a.symbols ≡ m.object.symbols
