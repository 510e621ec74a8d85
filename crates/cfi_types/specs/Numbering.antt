-- Numbers for classes, in order of first occurrence.
use Rattle.std.specs.Prelude.{◌≡◌, ◌↔◌, ℕ, ◌<◌, List, length, slice_index}
use Rattle.cfi_types.specs.Classes.{InOrder}

-- one number for each leader, in order of first occurrence
pub record AreNumbers (leaders numbers : List ℕ) : Type 0 where
  pub len : length numbers ≡ length leaders
  pub same : (a b : ℕ) → a < length leaders → b < length leaders
      → (slice_index numbers a ≡ slice_index numbers b) ↔ (slice_index leaders a ≡ slice_index leaders b)
  pub order : InOrder 0 numbers
