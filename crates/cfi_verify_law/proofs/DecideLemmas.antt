-- Facts of which each one holds or does not.
use Rattle.std.proofs.Common.{◌≡◌, ◌⊎◌, ℕ, zero, suc, ◌<◌, ◌≤◌, Bool, true, false, ℤ, List, [], ◌∷◌, refl, sym, subst, ⊎_elim, inl, inr, arith}
use Rattle.std.specs.List.{Contains, All}
use Rattle.std.specs.Bool.{Decides}
use Rattle.std.proofs.lemmas.Bool.{cases_lt, cases_eq, false≢true}
use Rattle.std.proofs.lemmas.Bool.Decides.{not_from_Decides, Decides-int_eq}
use Rattle.std.proofs.lemmas.List.Elements.{Contains-append_right, Contains-append_cases, All-nil, All-cons, All-head, All-tail, All-contains, All-contains_itself, All-weaker}
use Rattle.std.proofs.lemmas.Slice.Eq.{bytes_eq-Decides}

-- it holds, or it does not
abbrev pub Decided : Type 0 → Type 0
Decided P = P ⊎ ¬ P

-- ---- of facts that are decided

pub by : {P Q : Type 0} → (P → Q) → (Q → P) → Decided P → Decided Q
by {P} {Q} there back decided =
    ⊎_elim (λ (p : P). inl (there p)) (λ (no : ¬ P). inr (λ (q : Q). no (back q))) decided

pub both : {P Q : Type 0} → Decided P → Decided Q → Decided (P × Q)
both {P} {Q} one other =
    ⊎_elim
    (λ (p : P). ⊎_elim (λ (q : Q). inl (p, q)) (λ (no : ¬ Q). inr (λ (pair : P × Q). no pair.1)) other)
    (λ (no : ¬ P). inr (λ (pair : P × Q). no pair.0))
    one

pub three : {P Q R : Type 0} → Decided P → Decided Q → Decided R → Decided (P × Q × R)
three {P} {Q} {R} one other last =
    by (λ (p : P × (Q × R)). (p.0, p.1.0, p.1.1)) (λ (p : P × Q × R). (p.0, (p.1, p.2))) (both one (both other last))

pub four : {P Q R S : Type 0} → Decided P → Decided Q → Decided R → Decided S → Decided (P × Q × R × S)
four {P} {Q} {R} {S} one other third last =
    by (λ (p : P × (Q × R × S)). (p.0, p.1.0, p.1.1, p.1.2)) (λ (p : P × Q × R × S). (p.0, (p.1, p.2, p.3)))
    (both one (three other third last))

pub either : {P Q : Type 0} → Decided P → Decided Q → Decided (P ⊎ Q)
either {P} {Q} one other =
    ⊎_elim
    (λ (p : P). inl (inl p))
    (λ (no : ¬ P).
    ⊎_elim (λ (q : Q). inl (inr q)) (λ (none : ¬ Q). inr (λ (some : P ⊎ Q). ⊎_elim no none some)) other)
    one

pub when : {P Q : Type 0} → Decided P → Decided Q → Decided (P → Q)
when {P} {Q} one other =
    ⊎_elim
    (λ (p : P).
    ⊎_elim (λ (q : Q). inl (λ (_ : P). q)) (λ (no : ¬ Q). inr (λ (f : P → Q). no (f p))) other)
    (λ (no : ¬ P). inl (λ (p : P). absurd (no p)))
    one

-- ---- of numbers, booleans and lists of numbers

pub less : (a b : ℕ) → Decided (a < b)
less a b =
    ⊎_elim (λ (low : a < b). inl low) (λ (high : b ≤ a). inr (λ (low : a < b). omega (arith, low, high)))
    (cases_lt a b)

pub at_most : (a b : ℕ) → Decided (a ≤ b)
at_most a b =
    ⊎_elim (λ (high : b < a). inr (λ (low : a ≤ b). omega (arith, low, high))) (λ (low : a ≤ b). inl low)
    (cases_lt b a)

pub equal : (a b : ℕ) → Decided (a ≡ b)
equal a b = cases_eq a b

pub decided_by : {P : Type 0} (r : Bool) → Decides r P → Decided P
decided_by true decides = inl (decides.0 refl)
decided_by false decides = inr (not_from_Decides false decides refl)

pub equal_signed : (a b : ℤ) → Decided (a ≡ b)
equal_signed a b = decided_by _ (Decides-int_eq a b)

pub equal_lists : (xs ys : List ℕ) → Decided (xs ≡ ys)
equal_lists xs ys = decided_by _ (bytes_eq-Decides xs ys)

pub is_true : (b : Bool) → Decided (b ≡ true)
is_true true = inl refl
is_true false = inr false≢true

-- ---- of the items of a list

module _ {T : Type 0} (P : T → Type 0) (decided : (x : T) → Decided (P x)) where
  -- all have it
  pub all_have : (xs : List T) → Decided (All P xs)
  all_have [] = inl (All-nil P)
  all_have (x ∷ xs) =
      by (λ (both : P x × All P xs). All-cons P x xs both.0 both.1)
      (λ (all : All P (x ∷ xs)). (All-head P x xs all, All-tail P x xs all))
      (both (decided x) (all_have xs))

  pub all_in : (xs : List T) → Decided ((x : T) → Contains xs x → P x)
  all_in xs =
      by (λ (all : All P xs). λ x has. All-contains P xs x all has)
      (λ (each : (x : T) → Contains xs x → P x). All-weaker (Contains xs) P each xs (All-contains_itself xs))
      (all_have xs)

  -- the item of a list of one
  only : (x y : T) → Contains (x ∷ []) y → x ≡ y
  only x y (zero, within, is) = is
  only x y (suc k, within, is) = absurd (omega (arith, within))

  -- some has it
  pub some_in : (xs : List T) → Decided ((x : T) × Contains xs x × P x)
  some_in [] = inr (λ found. absurd (omega (arith, found.1.1)))
  some_in (x ∷ xs) =
      by
      (λ (either : P x ⊎ ((y : T) × Contains xs y × P y)).
      ⊎_elim (λ (here : P x). (x, (0, omega arith, refl), here))
      (λ (there : (y : T) × Contains xs y × P y).
      (there.0, Contains-append_right (x ∷ []) xs there.0 there.1, there.2))
      either)
      (λ (found : (y : T) × Contains (x ∷ xs) y × P y).
      ⊎_elim
      (λ (first : Contains (x ∷ []) found.0). inl (subst P (sym (only x found.0 first)) found.2))
      (λ (rest : Contains xs found.0). inr (found.0, rest, found.2))
      (Contains-append_cases (x ∷ []) xs found.0 found.1))
      (either (decided x) (some_in xs))
