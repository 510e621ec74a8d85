-- Lists that begin with other lists, and their order.
use Rattle.std.specs.Prelude.{◌≡◌, ◌<◌, ◌⊎◌, ℕ, List, [], ◌∷◌}

-- the other list begins with this one
abbrev pub IsPrefix : (front list : List ℕ) → Type 0
IsPrefix [] ys = Unit {0}
IsPrefix (x ∷ xs) [] = ⊥
IsPrefix (x ∷ xs) (y ∷ ys) = (x ≡ y) × IsPrefix xs ys

-- the list is the other one or comes before it: the first place at which they differ decides
abbrev pub NotAfter : (list other : List ℕ) → Type 0
NotAfter [] ys = Unit {0}
NotAfter (x ∷ xs) [] = ⊥
NotAfter (x ∷ xs) (y ∷ ys) = (x < y) ⊎ ((x ≡ y) × NotAfter xs ys)
