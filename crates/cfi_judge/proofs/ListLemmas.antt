-- Parts of lists: those that begin alike, and those of which no item is left out.
use Rattle.std.proofs.Common.{◌≡◌, ℕ, zero, suc, ◌+◌, ◌≤◌, List, [], ◌∷◌, ◌++◌, length, map, Option, Some, None, refl, ap, subst, ◌∙◌, arith}
use Rattle.std.specs.Prelude.{filter_map}
use Rattle.std.specs.List.{cons_option, slice_get}

-- lists that are equal, in two parts of equal lengths
pub parts_same : {X : Type 0} (xs ys zs ws : List X) → length xs ≡ length zs → xs ++ ys ≡ zs ++ ws
    → (xs ≡ zs) × (ys ≡ ws)
parts_same [] ys [] ws count same = (refl, same)
parts_same [] ys (z ∷ zs) ws count same = absurd (omega (arith, count))
parts_same (x ∷ xs) ys [] ws count same = absurd (omega (arith, count))
parts_same {X} (x ∷ xs) ys (z ∷ zs) ws count same =
    let head : x ≡ z = cc in
    let tail : xs ++ ys ≡ zs ++ ws = cc in
    let rest = parts_same xs ys zs ws (omega (arith, count)) tail in
    (ap (λ (v : X). v ∷ xs) head ∙ ap (λ (vs : List X). z ∷ vs) rest.0, rest.1)

-- the item behind a list
pub seam : {X : Type 0} (xs : List X) (x : X) (ys : List X) → slice_get (xs ++ x ∷ ys) (length xs) ≡ Some x
seam [] x ys = refl
seam (y ∷ xs) x ys = seam xs x ys

-- an item of the first part
pub among : {X : Type 0} (xs ys : List X) (k : ℕ) (x : X) → slice_get xs k ≡ Some x
    → slice_get (xs ++ ys) k ≡ Some x
among [] ys k x is = absurd (cc)
among (y ∷ xs) ys zero x is = is
among (y ∷ xs) ys (suc k) x is = among xs ys k x is

pub map_at : {X Y : Type 0} (f : X → Y) (xs : List X) (k : ℕ) (x : X) → slice_get xs k ≡ Some x
    → slice_get (map f xs) k ≡ Some (f x)
map_at f [] k x is = absurd (cc)
map_at {X} {Y} f (y ∷ xs) zero x is =
    let same : y ≡ x = cc in
    ap (λ (z : X). Some (f z)) same
map_at f (y ∷ xs) (suc k) x is = map_at f xs k x is

-- ---- what a partial function gives

module _ {X Y : Type 0} (f : X → Option Y) where
  one_more : (o : Option Y) (ys : List Y) (n : ℕ) → length ys ≤ n → length (cons_option o ys) ≤ n + 1
  one_more (Some y) ys n few = omega (arith, few)
  one_more None ys n few = omega (arith, few)

  pub few : (xs : List X) → length (filter_map f xs) ≤ length xs
  few [] = omega arith
  few (x ∷ xs) = omega (arith, one_more (f x) (filter_map f xs) (length xs) (few xs))

  -- an item that is not left out
  there : (o : Option Y) (ys : List Y) (n : ℕ) → length ys ≤ n → length (cons_option o ys) ≡ n + 1
      → (y : Y) × (o ≡ Some y) × (cons_option o ys ≡ y ∷ ys) × (length ys ≡ n)
  there (Some y) ys n few all = (y, refl, refl, omega (arith, all))
  there None ys n few all = absurd (omega (arith, few, all))

  -- where none is left out, each stands at its place
  pub each_there : (xs : List X) → length (filter_map f xs) ≡ length xs → (k : ℕ) (x : X) → slice_get xs k ≡ Some x
      → (y : Y) × (f x ≡ Some y) × (slice_get (filter_map f xs) k ≡ Some y)
  each_there [] all k x is = absurd (cc)
  each_there (z ∷ xs) all zero x is =
      let this = there (f z) (filter_map f xs) (length xs) (few xs) (omega (arith, all)) in
      let same : z ≡ x = cc in (
        this.0,
        subst (λ (w : X). f w ≡ Some this.0) same this.1,
        ap (λ (ys : List Y). slice_get ys 0) this.2,
      )
  each_there (z ∷ xs) all (suc k) x is =
      let this = there (f z) (filter_map f xs) (length xs) (few xs) (omega (arith, all)) in
      let rest = each_there xs this.3 k x is in
      (rest.0, rest.1, ap (λ (ys : List Y). slice_get ys (suc k)) this.2 ∙ rest.2)
