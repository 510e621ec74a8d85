-- The units of a module's words and where they stand. Words are numbered from the module's first, from 0; places that
-- faults name are in bytes.
use Rattle.std.specs.Prelude.{◌≡◌, ℕ, ◌*◌, ◌<◌, List, length, Option, Some, None}
use Rattle.std.specs.List.{filter_map}
use Rattle.cfi_unit.specs.declared.unit.Unit.{Unit as CodeUnit}
use Rattle.cfi_unit.specs.declared.unit.Unit.TheVariants as units
use Rattle.cfi_unit.specs.Spots.{StopsAt, IsInsnAt}
use Rattle.cfi_unit.specs.declared.spot.Spot.{Spot}
use Rattle.cfi_verify.specs.declared.checks.CheckSpot.{CheckSpot}

-- the check that a unit at a word is
abbrev pub check_in : (at : ℕ) → CodeUnit → Option CheckSpot
check_in at (units.Check link rs1 imm slot) = Some (record { at = at; link = link; slot = slot })
check_in at unit = None

-- the check of a unit, if it is one
abbrev pub check_of : Spot → Option CheckSpot
check_of spot = check_in spot.at spot.unit

-- the checks, in the order of the code
abbrev pub checks_of : List Spot → List CheckSpot
checks_of spots = filter_map check_of spots

-- the word at the place is no instruction
abbrev pub IsIllegal : (words : List ℕ) → (o : ℕ) → Type 0
IsIllegal words o = (at : ℕ) × (at < length words) × (o ≡ 4 * at) × ¬ IsInsnAt words at

-- reading units from the first word on stops at the place, before the end
pub record IsNotUnit (words : List ℕ) (o : ℕ) : Type 0 where
  pub at : ℕ
  pub here : o ≡ 4 * at
  pub stops : StopsAt words at
