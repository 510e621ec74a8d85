-- The units of code and where they stand, and how far words are units. Words are numbered from the code's first, from 0.
use Rattle.std.specs.Prelude.{◌≡◌, ℕ, ◌+◌, ◌<◌, List, [], ◌∷◌, length, take, slice_index, ⊤}
use Rattle.std.specs.List.{Contains, flat_map}
use Rattle.rv_insn.specs.declared.insn.Insn.{Insn}
use Rattle.rv_insn.specs.Insn.{IsWord}
use Rattle.cfi_unit.specs.declared.spot.Spot.{Spot}
use Rattle.cfi_unit.specs.declared.unit.Unit.{Unit as CodeUnit}
use Rattle.cfi_unit.specs.declared.reading.ReadFault.{ReadFault}
use Rattle.cfi_unit.specs.declared.reading.ReadFault.TheVariants.{Stops, Memory}
use Rattle.cfi_unit.specs.Unit.{size_of, words_of}
use Rattle.cfi_unit.specs.Code.{BeginsAt, UnitCode}
use Rattle.cfi_values.specs.Lists.{HasWith}

-- the units one after the other, the first at the word `at`
abbrev pub spots_of : (at : ℕ) → List CodeUnit → List Spot
spots_of at [] = []
spots_of at (unit ∷ code) = record { at = at; unit = unit } ∷ spots_of (at + size_of unit) code

-- the word at which a unit of a list begins, by the unit's number; the list's length gives the end
abbrev pub place_of : List CodeUnit → (number : ℕ) → ℕ
place_of code number = length (flat_map words_of (take number code))

-- it is the value of one of so many first numbers
abbrev pub IsOneOf : (count : ℕ) → (value : ℕ → ℕ) → (at : ℕ) → Type 0
IsOneOf count value at = (number : ℕ) × (number < count) × (at ≡ value number)

-- the words are the code of these units, at these places
pub record AreSpots (words : List ℕ) (spots : List Spot) : Type 0 where
  pub code : List CodeUnit
  pub units : UnitCode words code
  pub places : spots ≡ spots_of 0 code

-- one of the units begins at the word
abbrev pub BeginsUnit : List Spot → (at : ℕ) → Type 0
BeginsUnit spots at = HasWith (λ spot. spot.at) spots at

-- the words are units from their start to their end
pub record AreUnits (words : List ℕ) : Type 0 where
  pub code : List CodeUnit
  pub units : UnitCode words code

-- units that are read from the first word on stop at this one, before the end: the words before it are units, and none
-- begins there
pub record StopsAt (words : List ℕ) (at : ℕ) : Type 0 where
  pub within : at < length words
  pub before : AreUnits (take at words)
  pub stops : (unit : CodeUnit) → ¬ BeginsAt words at unit

-- the word is an instruction
abbrev pub IsInsnAt : (words : List ℕ) → (at : ℕ) → Type 0
IsInsnAt words at = (insn : Insn) × IsWord insn (slice_index words at)

-- each word before this one is an instruction
abbrev pub InsnsBelow : (words : List ℕ) → (n : ℕ) → Type 0
InsnsBelow words n = (at : ℕ) → at < n → IsInsnAt words at

-- why words are not read as units, unless memory ran out; the words before the place are instructions
abbrev pub IsReadFault : (words : List ℕ) → ReadFault → Type 0
IsReadFault words (Stops at) = StopsAt words at × InsnsBelow words at
IsReadFault words Memory = ⊤
