-- A list of numbers and one more: what holds at its places.
use Rattle.std.proofs.Common.{◌≡◌, ℕ, ◌<◌, ◌≤◌, List, [], ◌∷◌, ◌++◌, length, get_or, sym, subst, arith, inl, inr}
use Rattle.std.proofs.lemmas.Bool.{cases_lt}
use Rattle.std.proofs.lemmas.List.{length_push, get_or_append_left, get_or_at}

module _ (numbers : List ℕ) (number : ℕ) where
  pub before : (slot : ℕ) → slot < length numbers → get_or (numbers ++ number ∷ []) slot 0 ≡ get_or numbers slot 0
  before slot lower = get_or_append_left numbers (number ∷ []) 0 slot lower

  pub here : (slot : ℕ) → length numbers ≡ slot → get_or (numbers ++ number ∷ []) slot 0 ≡ number
  here slot last = get_or_at numbers number [] 0 slot last

  pub last_or : (slot : ℕ) → slot < length (numbers ++ number ∷ []) → length numbers ≤ slot → length numbers ≡ slot
  last_or slot within higher = let len = length_push numbers number in omega arith

  -- at each place of the longer list: what holds of the places before, and of the last
  pub each : (P : (slot number : ℕ) → Type 0) → ((slot : ℕ) → slot < length numbers → P slot (get_or numbers slot 0))
      → P (length numbers) number
      → (slot : ℕ) → slot < length (numbers ++ number ∷ []) → P slot (get_or (numbers ++ number ∷ []) slot 0)
  each P earlier last slot within =
      elim (cases_lt slot (length numbers)) [
        | inl lower ↦ subst (P slot) (sym (before slot lower)) (earlier slot lower)
        | inr higher ↦
            let at = last_or slot within higher in
            subst (P slot) (sym (here slot at)) (subst (λ n. P n number) at last)
      ]
