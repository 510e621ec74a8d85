-- Which words functions have, in whatever order they stand. A table has for each word the greatest end, in bytes, of
-- the functions that begin at the word or before it.
use Rattle.std.specs.Prelude.{◌≡◌, ◌⊎◌, ℕ, ◌+◌, ◌*◌, ◌/◌, ◌<◌, ◌≤◌, Bool, nat_lt, List, length, slice_index}
use Rattle.cfi_aux.specs.declared.records.Function.{Function}
use Rattle.cfi_instr.specs.inner.Functions.{is_covered}

-- the first word that begins where the function does or after it
abbrev pub first_word : Function → ℕ
first_word f = (f.offset + 3) / 4

-- the end at a word is raised to another, where that is greater, and no other is changed
pub record Raises (old : List ℕ) (word to : ℕ) (new : List ℕ) : Type 0 where
  pub keeps : (k : ℕ) → slice_index old k ≤ slice_index new k
  pub reaches : word < length old → to ≤ slice_index new word
  pub known : (k : ℕ) → (slice_index new k ≡ slice_index old k) ⊎ ((k ≡ word) × (slice_index new k ≡ to))

-- each of the first n words has the greatest of the ends at the words up to it
pub record AreCarried (old new : List ℕ) (n : ℕ) : Type 0 where
  pub reaches : (v w : ℕ) → v ≤ w → w < n → slice_index old v ≤ slice_index new w
  pub known : (w : ℕ) → w < n → (v : ℕ) × (v ≤ w) × (slice_index new w ≡ slice_index old v)

-- the word begins before the end that the table has for it
abbrev pub is_before_end : (ends : List ℕ) → (w : ℕ) → Bool
is_before_end ends w = nat_lt (4 * w) (slice_index ends w)

-- the table tells of each of so many words whether some function has it
abbrev pub AreEnds : List Function → (count : ℕ) → (ends : List ℕ) → Type 0
AreEnds functions count ends = (w : ℕ) → w < count → is_before_end ends w ≡ is_covered functions (4 * w)
