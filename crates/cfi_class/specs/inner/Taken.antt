-- Which numbers are taken, by marks.
use Rattle.std.specs.Prelude.{ℕ, zero, suc, ◌+◌, ◌<◌, ◌≤◌, ◌↔◌, Bool, false, List, length, slice_index_or, if◌then◌else◌, Contains}
use Rattle.cfi_class.specs.inner.Numbering.{IsMarked}

-- how many of the numbers below the bound are marked
unfoldable pub marked_below : (marks : List Bool) → (bound : ℕ) → ℕ
marked_below marks zero = 0
marked_below marks (suc number) =
    marked_below marks number + (if slice_index_or marks number false then 1 else 0)

-- marks tell the numbers of a list; no more are marked than the list has
pub record MarksTaken (numbers : List ℕ) (marks : List Bool) : Type 0 where
  pub marked : (number : ℕ) → IsMarked marks number ↔ Contains numbers number
  pub few : (bound : ℕ) → marked_below marks bound ≤ length numbers

-- the first number from another one on that is not marked
pub record IsNextFree (marks : List Bool) (from next : ℕ) : Type 0 where
  pub least : from ≤ next
  pub free : IsMarked marks next → ⊥
  pub taken : (number : ℕ) → from ≤ number → number < next → IsMarked marks number
