-- The first node of each key that has come.
use Rattle.std.specs.Prelude.{◌≡◌, ◌≢◌, ℕ, Option, Some, None, unwrap_or, List, [], ◌∷◌, slice_index_or}
use Rattle.std.specs.Ordering.{nat_cmp}
use Rattle.std.specs.Cmp.Lexicographic.{slice_cmp}
use Rattle.std.specs.BTreeMap.{get_by}
use Rattle.cfi_types.specs.declared.leader.Firsts.{Firsts}

-- the first node of a key: a class alone, or a class and a signature
abbrev pub first_of : Firsts → List ℕ → Option ℕ
first_of firsts [] = None
first_of firsts (class ∷ []) = slice_index_or firsts.alone.items class None
first_of firsts (class ∷ kind ∷ rest) = get_by (λ k. slice_cmp nat_cmp (class ∷ kind ∷ rest) k.items) firsts.signed

-- the first nodes `new` are `old`, and at the key the node, where none had come; `found` is the key's
pub record PutsFirst (old new : List ℕ → Option ℕ) (key : List ℕ) (node found : ℕ) : Type 0 where
  pub first : found ≡ unwrap_or (old key) node
  pub here : new key ≡ Some found
  pub others : (q : List ℕ) → q ≢ key → new q ≡ old q
