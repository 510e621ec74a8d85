-- Code is the spellings of units, one after the other; places are word numbers, from 0.
use Rattle.std.specs.Prelude.{◌≡◌, ℕ, List, take, drop}
use Rattle.std.specs.List.{flat_map, AllByRecursion}
use Rattle.cfi_unit.specs.declared.unit.Unit.{Unit as CodeUnit}
use Rattle.cfi_unit.specs.Unit.{IsUnit, Spells, words_of, size_of}

-- the unit's spelling begins at the place
abbrev pub BeginsAt : (words : List ℕ) → (at : ℕ) → CodeUnit → Type 0
BeginsAt words at unit = Spells unit (take (size_of unit) (drop at words))

-- the words are the spellings of the units
pub record UnitCode (words : List ℕ) (code : List CodeUnit) : Type 0 where
  pub fit : AllByRecursion IsUnit code
  pub spelled : words ≡ flat_map words_of code
