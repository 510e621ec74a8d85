-- Where the symbols, relocations, functions and switch entries of a module go. `offsets` has the offset of each word's
-- unit in the output.
use Rattle.std.specs.Prelude.{ℕ, ◌+◌, ◌-◌, ◌/◌, ◌==◌, ◌&&◌, ◌||◌, ℤ, Bool, if◌then◌else◌, List, map, Option, Some, None}
use Rattle.elf_read.specs.declared.object.Symbol.{Symbol}
use Rattle.elf_read.specs.declared.object.Reloc.{Reloc}
use Rattle.elf_read.specs.declared.object.Area.{Area}
use Rattle.elf_read.specs.declared.object.Area.TheVariants as areas
use Rattle.elf_read.specs.declared.object.Place.{Place}
use Rattle.elf_read.specs.declared.object.Place.TheVariants as places
use Rattle.elf_read.specs.declared.relocation.TheConstants.{BRANCH, JAL, PCREL_LO12_I, PCREL_LO12_S, LO12_I, LO12_S}
use Rattle.elf_read.specs.Relocation.{is_of_pair}
use Rattle.cfi_aux.specs.declared.records.Function.{Function}
use Rattle.cfi_aux.specs.declared.records.Kind.{Kind}
use Rattle.cfi_aux.specs.declared.records.Kind.TheVariants as kinds
use Rattle.cfi_instr.specs.Words.{Words}
use Rattle.cfi_aux.specs.Extent.{byte_end}
use Rattle.cfi_instr.specs.Target.{offset_from, named_symbol}
use Rattle.cfi_instr.specs.Sizes.{is_long, moved}
use Rattle.cfi_instr.specs.Units.{distance}

-- ---- symbols

-- a value in the text moves with its unit, no other does
abbrev pub moved_value : Words → (offsets : List ℕ) → Place → (value : ℕ) → ℕ
moved_value t offsets places.Text value = moved t offsets value
moved_value t offsets places.Undefined value = value
moved_value t offsets places.Absolute value = value
moved_value t offsets places.Data value = value

-- a symbol moves with its value
abbrev pub moved_symbol : Words → (offsets : List ℕ) → Symbol → Symbol
moved_symbol t offsets symbol = record symbol { value = moved_value t offsets symbol.place symbol.value }

-- ---- relocations

-- the mapped target less the mapped symbol
abbrev pub addend_to : Words → (offsets : List ℕ) → (value : ℕ) → (target : Option ℕ) → (addend : ℤ) → ℤ
addend_to t offsets value None addend = addend
addend_to t offsets value (Some target) addend = distance (moved t offsets value) (moved t offsets target)

-- a place in the text that a value and an addend name moves with its unit; the addend is what is left then
abbrev pub addend_in : Words → (offsets : List ℕ) → Place → (value : ℕ) → (addend : ℤ) → ℤ
addend_in t offsets places.Text value addend = addend_to t offsets value (offset_from value addend) addend
addend_in t offsets places.Undefined value addend = addend
addend_in t offsets places.Absolute value addend = addend
addend_in t offsets places.Data value addend = addend

-- of a relocation without a symbol the addend stays
abbrev pub addend_by : Words → (offsets : List ℕ) → Option Symbol → (addend : ℤ) → ℤ
addend_by t offsets None addend = addend
addend_by t offsets (Some symbol) addend = addend_in t offsets symbol.place symbol.value addend

-- a relocation of a long branch, which moves to the jump
abbrev pub is_of_long : (long : List Bool) → Reloc → Bool
is_of_long long reloc = reloc.kind == BRANCH && is_long long (reloc.offset / 4)

-- the kind: a jump's for a pair and a long branch, and that of form I for one of form S, since the first word of a
-- masked access has form I
abbrev pub kind_in : (long : Bool) → (kind : ℕ) → ℕ
kind_in long kind =
    if long || is_of_pair kind then JAL
    else (if kind == LO12_S then LO12_I else (if kind == PCREL_LO12_S then PCREL_LO12_I else kind))

-- a relocation moves with its word; in a long branch it sits on the jump, one word later
abbrev pub offset_in : Words → (offsets : List ℕ) → (long : Bool) → (offset : ℕ) → ℕ
offset_in t offsets long offset = moved t offsets offset + (if long then 4 else 0)

-- what becomes of a relocation with its new addend, in text and in data
abbrev pub moved_by : Area → Words → (long : List Bool) → (offsets : List ℕ) → (addend : ℤ) → Reloc → Reloc
moved_by areas.Text t long offsets addend reloc = record {
  area = reloc.area;
  offset = offset_in t offsets (is_of_long long reloc) reloc.offset;
  kind = kind_in (is_of_long long reloc) reloc.kind;
  symbol = reloc.symbol;
  addend = addend;
}
moved_by areas.Data t long offsets addend reloc = record reloc { addend = addend }

-- what becomes of a relocation
abbrev pub moved_reloc : Words → List Symbol → (long : List Bool) → (offsets : List ℕ) → Reloc → Reloc
moved_reloc t symbols long offsets reloc =
    moved_by reloc.area t long offsets (addend_by t offsets (named_symbol symbols reloc) reloc.addend) reloc

-- ---- records

-- a function begins and ends where its words have gone
abbrev pub moved_function : Words → (offsets : List ℕ) → Function → Function
moved_function t offsets f = record f {
  offset = moved t offsets f.offset;
  length = moved t offsets (byte_end f) - moved t offsets f.offset;
}

-- the entries of a switch move with their units; all else stays
abbrev pub moved_kind : Words → (offsets : List ℕ) → Kind → Kind
moved_kind t offsets (kinds.Switch entries) = kinds.Switch (map (moved t offsets) entries)
moved_kind t offsets (kinds.Call node) = kinds.Call node
moved_kind t offsets (kinds.Tail node) = kinds.Tail node
moved_kind t offsets kinds.Return = kinds.Return
moved_kind t offsets (kinds.Import name cell) = kinds.Import name cell
