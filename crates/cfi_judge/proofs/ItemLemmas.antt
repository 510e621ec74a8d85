-- Items of lists, by their places.
use Rattle.std.proofs.Common.{◌≡◌, ℕ, ◌<◌, ◌≤◌, List, length, get_or, Some, None, sym, ap, ◌∙◌, ⊎_elim, arith}
use Rattle.std.specs.List.{slice_get}
use Rattle.std.proofs.lemmas.Option.{slice_get-get_or, slice_get_cases}

-- the item at a place is that of its number
pub item_there : {X : Type 0} (xs : List X) (number : ℕ) (x : X) → number < length xs → x ≡ get_or xs number x
    → slice_get xs number ≡ Some x
item_there xs number x within is = slice_get-get_or xs number x within ∙ ap (λ y. Some y) (sym is)

-- the item of a number that a list has
pub found : {X : Type 0} (xs : List X) (number : ℕ) → number < length xs → (x : X) × (slice_get xs number ≡ Some x)
found {X} xs number within = ⊎_elim
    (λ (here : (x : X) × (number < length xs) × (slice_get xs number ≡ Some x) × (get_or xs number x ≡ x)).
    (here.0, here.2))
    (λ (past : (length xs ≤ number) × (slice_get xs number ≡ None)). absurd (omega (arith, within, past.0)))
    (slice_get_cases xs number).1
