-- Rows as they are kept: lists, and for each row one more than the place of its list, or 0.
use Rattle.std.specs.Prelude.{◌≡◌, ℕ, zero, suc, ◌<◌, ◌≤◌, List, [], slice_index_or}

-- the list at a place
abbrev pub row_in : (lists : List (List ℕ)) → (place : ℕ) → List ℕ
row_in lists zero = []
row_in lists (suc k) = slice_index_or lists k []

-- each place is one of a list, or 0, and no two rows have one list
pub record HaveOwnLists (places : List ℕ) (count : ℕ) : Type 0 where
  pub within : (i : ℕ) → slice_index_or places i 0 ≤ count
  pub own : (i j : ℕ) → 0 < slice_index_or places i 0
      → slice_index_or places i 0 ≡ slice_index_or places j 0 → i ≡ j
