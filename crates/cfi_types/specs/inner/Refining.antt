-- What a refinement ends with: the least node that is equal to each.
use Rattle.std.specs.Prelude.{◌≡◌, ◌↔◌, ℕ, ◌<◌, List, length, slice_index}
use Rattle.cfi_type_table.specs.Node.{Node}
use Rattle.cfi_types.specs.Same.{Equal}
use Rattle.cfi_types.specs.inner.Splitting.{IsLow}

-- one number for equal nodes alone: that of the least of them
pub record AreLeaders (nodes : List Node) (leaders : List ℕ) : Type 0 where
  pub len : length leaders ≡ length nodes
  pub low : IsLow leaders
  pub leader : (a : ℕ) → a < length nodes → slice_index leaders (slice_index leaders a) ≡ slice_index leaders a
  pub equal : (a b : ℕ) → a < length nodes → b < length nodes
      → (slice_index leaders a ≡ slice_index leaders b) ↔ Equal nodes a nodes b
