-- The units of a placed module's code and where they stand. Words are numbered from the module's first, from 0; an
-- address is in bytes, four a word of the code.
use Rattle.std.specs.Prelude.{◌≡◌, ℕ, ◌+◌, ◌*◌, ℤ, pos, negsuc, List, slice_get, Some}
use Rattle.cfi_unit.specs.declared.unit.Unit.{Unit as CodeUnit}
use Rattle.cfi_unit.specs.Code.{UnitCode}
use Rattle.cfi_aux.specs.declared.placed.Placed.{Placed}
use Rattle.cfi_aux.specs.declared.placed.PlacedFunction.{PlacedFunction}
use Rattle.cfi_unit.specs.Spots.{place_of}

-- the module's code has the unit at the word
pub record Stands (m : Placed) (at : ℕ) (unit : CodeUnit) : Type 0 where
  pub code : List CodeUnit
  pub units : UnitCode m.words code
  pub number : ℕ
  pub is : slice_get code number ≡ Some unit
  pub place : at ≡ place_of code number

-- the address of a word of the module
abbrev pub code_address : Placed → (at : ℕ) → ℕ
code_address m at = 4 * (m.base + at)

-- the address at which a function of the module begins
abbrev pub entry_of : Placed → PlacedFunction → ℕ
entry_of m f = code_address m f.first

-- an offset in bytes leads from one address to another
abbrev pub Leads : (address : ℕ) → ℤ → (to : ℕ) → Type 0
Leads address (pos n) to = to ≡ address + n
Leads address (negsuc n) to = to + n + 1 ≡ address
