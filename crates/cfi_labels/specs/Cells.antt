-- The cells at the policies of a run. A policy is told by its number, from 0: that of the start modules.
use Rattle.std.specs.Prelude.{◌≡◌, ℕ, ◌+◌, List, length, slice_get, Some}
use Rattle.cfi_unit.specs.declared.fill.Fill.{Fill}
use Rattle.cfi_valid.specs.Loaded.{Members, cells_at}

-- the cells at each policy up to the last, in order
pub record AreCellsOf (members : Members) (last : ℕ) (sets : List (List Fill)) : Type 0 where
  pub count : length sets ≡ last + 1
  pub each : (policy : ℕ) (cells : List Fill) → slice_get sets policy ≡ Some cells → cells ≡ cells_at policy members
