-- Numbers that are given in order of first occurrence.
use Rattle.std.proofs.Common.{◌≡◌, ℕ, ◌+◌, ◌<◌, ◌≤◌, true, false, cond, ltb, List, [], ◌∷◌, ◌++◌, length, get_or, refl, sym, ap, subst, ◌∙◌, arith, inl, inr}
use Rattle.std.specs.Prelude.{max, ◌↔◌, ◌⊎◌}
use Rattle.std.proofs.lemmas.Bool.{cases_lt, lt-ltb}
use Rattle.std.proofs.lemmas.Bool.Decides.{nat_tests}
use Rattle.std.proofs.lemmas.List.{length_push, get_or_push, get_or_append_left}
use Rattle.cfi_types.specs.Classes.{InOrder}
use Rattle.cfi_types.specs.inner.Extending.{next_after}
use Rattle.cfi_types.specs.inner.Splitting.{IsLow}
use Rattle.cfi_types.specs.Numbering.{AreNumbers}

InOrder-push : (next : ℕ) (ns : List ℕ) (n : ℕ) → InOrder next ns → n ≤ next_after next ns → InOrder next (ns ++ n ∷ [])
InOrder-push next [] n h le = (le, tt)
InOrder-push next (m ∷ ns) n h le = (h.0, InOrder-push (max next (m + 1)) ns n h.1 le)

next_after-push : (next : ℕ) (ns : List ℕ) (n : ℕ) → next_after next (ns ++ n ∷ []) ≡ max (next_after next ns) (n + 1)
next_after-push next [] n = refl
next_after-push next (m ∷ ns) n = next_after-push (max next (m + 1)) ns n

-- the numbers of the first i leaders, of which the next is `count`
pub record NumbersSoFar (leaders : List ℕ) (i : ℕ) (numbers : List ℕ) (count : ℕ) : Type 0 where
  pub len : length numbers ≡ i
  pub few : count ≤ i
  pub below : (a : ℕ) → a < i → get_or numbers a 0 < count
  pub same : (a b : ℕ) → a < i → b < i
      → (get_or numbers a 0 ≡ get_or numbers b 0) ↔ (get_or leaders a 0 ≡ get_or leaders b 0)
  pub order : InOrder 0 numbers
  pub next : next_after 0 numbers ≡ count

pub no_numbers : (leaders numbers : List ℕ) → numbers ≡ [] → NumbersSoFar leaders 0 numbers 0
no_numbers leaders numbers none = subst (λ (l : List ℕ). NumbersSoFar leaders 0 l 0) (sym none) (record {
  len = refl;
  few = omega arith;
  below = λ a lt. absurd (omega arith);
  same = λ a b la lb. absurd (omega arith);
  order = tt;
  next = refl;
})

module _ (leaders : List ℕ) (i : ℕ) (numbers : List ℕ) (count n : ℕ) (so_far : NumbersSoFar leaders i numbers count)
    (within : n ≤ count)
    (fresh : (b : ℕ) → b < i → (get_or numbers b 0 ≡ n) ↔ (get_or leaders b 0 ≡ get_or leaders i 0)) where
  old : (a : ℕ) → a < i → get_or (numbers ++ n ∷ []) a 0 ≡ get_or numbers a 0
  old a la = get_or_append_left numbers (n ∷ []) 0 a (omega (arith, so_far.len))

  new : (a : ℕ) → a ≡ i → get_or (numbers ++ n ∷ []) a 0 ≡ n
  new a e = get_or_push numbers n 0 a (so_far.len ∙ sym e)

  -- numbers agree with leaders at i too
  same_at : (a b : ℕ) → (a < i) ⊎ (a ≡ i) → (b < i) ⊎ (b ≡ i)
      → (get_or (numbers ++ n ∷ []) a 0 ≡ get_or (numbers ++ n ∷ []) b 0) ↔ (get_or leaders a 0 ≡ get_or leaders b 0)
  same_at a b (inl la) (inl lb) = (
    (λ e. (so_far.same a b la lb).0 (sym (old a la) ∙ e ∙ old b lb)),
    (λ e. old a la ∙ (so_far.same a b la lb).1 e ∙ sym (old b lb)),
  )
  same_at a b (inl la) (inr eb) = (
    (λ e. (fresh a la).0 (sym (old a la) ∙ e ∙ new b eb) ∙ ap (λ k. get_or leaders k 0) (sym eb)),
    (λ e. old a la ∙ (fresh a la).1 (e ∙ ap (λ k. get_or leaders k 0) eb) ∙ sym (new b eb)),
  )
  same_at a b (inr ea) (inl lb) = (
    (λ e. sym ((fresh b lb).0 (sym (old b lb) ∙ sym e ∙ new a ea) ∙ ap (λ k. get_or leaders k 0) (sym ea))),
    (λ e. sym (old b lb ∙ (fresh b lb).1 (sym e ∙ ap (λ k. get_or leaders k 0) ea) ∙ sym (new a ea))),
  )
  same_at a b (inr ea) (inr eb) = (
    (λ e. ap (λ k. get_or leaders k 0) (ea ∙ sym eb)),
    (λ e. new a ea ∙ sym (new b eb)),
  )

  here_or_below : (a : ℕ) → a < i + 1 → (a < i) ⊎ (a ≡ i)
  here_or_below a lt = elim (cases_lt a i) [ inl less ↦ inl less | inr more ↦ inr (omega arith) ]

  pub one_number : NumbersSoFar leaders (i + 1) (numbers ++ n ∷ []) (max count (n + 1))
  one_number = record {
    len = omega (arith, length_push numbers n, so_far.len);
    few = omega (arith, so_far.few);
    below = λ a lt. elim (here_or_below a lt) [
      | inl less ↦ omega (arith, old a less, so_far.below a less)
      | inr here ↦ omega (arith, new a here)
    ];
    same = λ a b la lb. same_at a b (here_or_below a la) (here_or_below b lb);
    order = InOrder-push 0 numbers n so_far.order (omega (arith, so_far.next));
    next = next_after-push 0 numbers n ∙ ap (λ k. max k (n + 1)) so_far.next;
  }

-- the number that the code gives next
module _ (leaders : List ℕ) (i : ℕ) (numbers : List ℕ) (count : ℕ) (so_far : NumbersSoFar leaders i numbers count)
    (low : IsLow leaders)
    (own : (a : ℕ) → a < length leaders → get_or leaders (get_or leaders a 0) 0 ≡ get_or leaders a 0)
    (lt : i < length leaders) where
  earlier : (n : ℕ) → get_or leaders i 0 < i → n ≡ get_or numbers (get_or leaders i 0) 0
      → NumbersSoFar leaders (i + 1) (numbers ++ n ∷ []) (max count (n + 1))
  earlier n less is =
      let m = get_or leaders i 0 in
      let within : n ≤ count = omega (arith, so_far.below m less) in
      one_number leaders i numbers count n so_far within (λ b lb. (
        (λ e. (so_far.same b m lb less).0 (e ∙ is) ∙ own i lt),
        (λ e. (so_far.same b m lb less).1 (e ∙ sym (own i lt)) ∙ sym is),
      ))

  first : (n : ℕ) → i ≤ get_or leaders i 0 → n ≡ count
      → NumbersSoFar leaders (i + 1) (numbers ++ n ∷ []) (max count (n + 1))
  first n more is =
      let at : get_or leaders i 0 ≡ i = omega (arith, low i lt) in
      one_number leaders i numbers count n so_far (omega arith) (λ b lb. (
        (λ e. absurd (omega (arith, so_far.below b lb))),
        (λ e. absurd (omega (arith, low b (omega arith)))),
      ))

  pub given : (n : ℕ)
      → n ≡ cond (ltb (get_or leaders i 0) (length numbers)) (get_or numbers (get_or leaders i 0) 0) count
      → NumbersSoFar leaders (i + 1) (numbers ++ n ∷ []) (max count (n + 1))
  given n is =
      elim (cases_lt (get_or leaders i 0) (length numbers)) [
        | inl less ↦
            let here : ltb (get_or leaders i 0) (length numbers) ≡ true = lt-ltb _ _ less in
            earlier n (omega (arith, so_far.len)) (is ∙ rw here refl)
        | inr more ↦
            let past : ltb (get_or leaders i 0) (length numbers) ≡ false = grind (arith, nat_tests) in
            first n (omega (arith, so_far.len)) (is ∙ rw past refl)
      ]

  pub given_within : (n : ℕ)
      → n ≡ cond (ltb (get_or leaders i 0) (length numbers)) (get_or numbers (get_or leaders i 0) 0) count → n ≤ count
  given_within n is =
      elim (cases_lt (get_or leaders i 0) (length numbers)) [
        | inl less ↦
            let here : ltb (get_or leaders i 0) (length numbers) ≡ true = lt-ltb _ _ less in
            let value : n ≡ get_or numbers (get_or leaders i 0) 0 = is ∙ rw here refl in
            omega (arith, so_far.below (get_or leaders i 0) (omega (arith, so_far.len)))
        | inr more ↦
            let past : ltb (get_or leaders i 0) (length numbers) ≡ false = grind (arith, nat_tests) in
            let value : n ≡ count = is ∙ rw past refl in
            omega arith
      ]

pub all_numbers : (leaders : List ℕ) (i : ℕ) (numbers : List ℕ) (count : ℕ) → NumbersSoFar leaders i numbers count
    → length leaders ≡ i → AreNumbers leaders numbers
all_numbers leaders i numbers count so_far all = record {
  len = so_far.len ∙ sym all;
  same = λ a b la lb. so_far.same a b (omega arith) (omega arith);
  order = so_far.order;
}
