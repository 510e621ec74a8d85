-- The code of placed modules: each module's words at its place, and 0 elsewhere. Places are code words, from 0.
use Rattle.std.specs.Prelude.{◌≡◌, ℕ, ◌+◌, ◌≤◌, ◌<◌, List, length, slice_index, All}
use Rattle.std.specs.List.{AllPairs}
use Rattle.cfi_aux.specs.declared.placed.Placed.{Placed}

-- the code word is one of the module's
abbrev pub LiesInModule : Placed → (word : ℕ) → Type 0
LiesInModule placed word = (placed.base ≤ word) × (word < placed.base + length placed.words)

-- a module ends where another begins, or before
abbrev pub EndsBefore : Placed → Placed → Type 0
EndsBefore placed later = placed.base + length placed.words ≤ later.base

-- modules that lie apart, in their order, in so many code words
pub record LieApart (modules : List Placed) (code_words : ℕ) : Type 0 where
  pub order : AllPairs EndsBefore modules
  pub within : All (λ placed. placed.base + length placed.words ≤ code_words) modules

-- the code has the module's words at its place
abbrev pub HasWords : (code : List ℕ) → Placed → Type 0
HasWords code placed =
    (k : ℕ) → k < length placed.words → slice_index code (placed.base + k) ≡ slice_index placed.words k

-- so many code words, with each module's words at its place and 0 elsewhere
pub record IsCodeOf (modules : List Placed) (code_words : ℕ) (code : List ℕ) : Type 0 where
  pub len : length code ≡ code_words
  pub placed : All (HasWords code) modules
  pub free : (word : ℕ) → word < code_words → All (λ placed. LiesInModule placed word → ⊥) modules
      → slice_index code word ≡ 0
