-- Which items of a list are as they should be, and the first that is not. P says so of an item and its number.
use Rattle.std.specs.Prelude.{◌≡◌, ℕ, ◌<◌, List, slice_get, Some}

-- P holds of each item
abbrev pub Each : {T : Type 0} → List T → (ℕ → T → Type 0) → Type 0
Each {T} xs P = (number : ℕ) (x : T) → slice_get xs number ≡ Some x → P number x

-- P holds of each item before the number
abbrev pub EachBelow : {T : Type 0} → List T → (ℕ → T → Type 0) → (n : ℕ) → Type 0
EachBelow {T} xs P n = (number : ℕ) (x : T) → number < n → slice_get xs number ≡ Some x → P number x

-- P does not hold of some item, whose place is this one
abbrev pub Breaks : {T : Type 0} → List T → (place : ℕ → T → ℕ) → (ℕ → T → Type 0) → ℕ → Type 0
Breaks {T} xs place P at =
    (number : ℕ) × (x : T) × (slice_get xs number ≡ Some x) × (at ≡ place number x) × ¬ P number x

-- the same of the first item of which P does not hold
pub record IsFirstBreak {T : Type 0} (xs : List T) (place : ℕ → T → ℕ) (P : ℕ → T → Type 0) (at : ℕ) : Type 0 where
  pub number : ℕ
  pub item : T
  pub is : slice_get xs number ≡ Some item
  pub here : at ≡ place number item
  pub fails : ¬ P number item
  pub before : EachBelow xs P number

-- an item's own number, as its place
abbrev pub own_number : {T : Type 0} → (number : ℕ) → T → ℕ
own_number number item = number
