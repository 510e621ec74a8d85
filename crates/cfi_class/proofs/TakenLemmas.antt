-- Marks of taken numbers, one more at a time, and how many there are.
use Rattle.std.proofs.Common.{◌≡◌, ℕ, zero, suc, ◌+◌, ◌<◌, ◌≤◌, Bool, true, false, List, length, get_or, set, replicate, refl, sym, ap, subst, ◌∙◌, arith, inl, inr}
use Rattle.std.specs.List.{Contains}
use Rattle.std.proofs.lemmas.Bool.{cases_eq, cases_lt, cases_Bool, false≢true}
use Rattle.std.proofs.lemmas.List.{length-set, get_or-set_same, get_or-set_other, get_or_default, get_or_past, get_or-replicate, length-replicate}
use Rattle.std.proofs.lemmas.List.Elements.{Contains-get_or}
use Rattle.cfi_class.specs.inner.Numbering.{IsMarked}
use Rattle.cfi_class.specs.inner.Taken.{marked_below, MarksTaken}

-- ---- a mark more

module _ (marks : List Bool) (place : ℕ) (there : place < length marks) where
  below_place : (bound : ℕ) → bound ≤ place → marked_below (set marks place true) bound ≡ marked_below marks bound
  unfolding marked_below
  below_place zero low = refl
  below_place (suc number) low =
      let same : get_or (set marks place true) number false ≡ get_or marks number false =
      get_or-set_other marks place number true false (λ is. absurd (omega arith)) in
      let before = below_place number (omega arith) in
      rw (same, before) refl

  pub marked_more : (bound : ℕ) → marked_below (set marks place true) bound ≤ marked_below marks bound + 1
  unfolding marked_below
  marked_more zero = omega arith
  marked_more (suc number) =
      elim (cases_eq number place) [
        | inl same ↦
            let before = below_place number (omega arith) in
            elim (cases_Bool (get_or (set marks place true) number false)) [
              | inl is ↦ rw (is, before) (omega arith)
              | inr is ↦ rw (is, before) (omega arith)
            ]
        | inr differs ↦
            let before = marked_more number in
            rw (get_or-set_other marks place number true false differs) (omega arith)
      ]

-- ---- at first

pub none_of_replicate : (size : ℕ) (marks : List Bool) → marks ≡ replicate size false
    → (number : ℕ) → get_or marks number false ≡ false
none_of_replicate size marks is number =
    elim (cases_lt number size) [
      | inl lower ↦ ap (λ list. get_or list number false) is ∙ get_or-replicate size number false false lower
      | inr higher ↦ ap (λ list. get_or list number false) is
          ∙ get_or_past (replicate size false) number false (rw length-replicate higher)
    ]

none_below : (marks : List Bool) → ((number : ℕ) → get_or marks number false ≡ false) → (bound : ℕ)
    → marked_below marks bound ≡ 0
unfolding marked_below
none_below marks none zero = refl
none_below marks none (suc number) =
    let before = none_below marks none number in
    rw (none number, before) refl

-- ---- a run of marks

pub run_of_marks : (marks : List Bool) (from bound : ℕ) → from ≤ bound
    → ((number : ℕ) → from ≤ number → number < bound → IsMarked marks number)
    → marked_below marks bound + from ≡ marked_below marks from + bound
unfolding marked_below
run_of_marks marks from zero low all = let is : from ≡ zero = omega arith in rw is (omega arith)
run_of_marks marks from (suc number) low all =
    elim (cases_eq from (suc number)) [
      | inl same ↦ rw same refl
      | inr differs ↦
          let before = run_of_marks marks from number (omega arith)
          (λ other above lower. all other above (omega arith)) in
          let marked : get_or marks number false ≡ true = all number (omega arith) (omega arith) in
          rw marked (omega arith)
    ]

pub below_more : (marks : List Bool) (number : ℕ) → marked_below marks number ≤ marked_below marks (number + 1)
unfolding marked_below
below_more marks number =
    let is : suc number ≡ number + 1 = omega arith in
    subst (λ bound. marked_below marks number ≤ marked_below marks bound) is (omega arith)

-- ---- the marks of a list's first numbers

pub record TakenSoFar (numbers : List ℕ) (size count : ℕ) (marks : List Bool) : Type 0 where
  pub len : length marks ≡ size
  pub only : (number : ℕ) → IsMarked marks number → Contains numbers number
  pub marked : (place : ℕ) → place < count → IsMarked marks (get_or numbers place 0)
  pub few : (bound : ℕ) → marked_below marks bound ≤ count

pub none_taken : (numbers : List ℕ) (size : ℕ) (marks : List Bool) → length marks ≡ size
    → ((number : ℕ) → get_or marks number false ≡ false) → TakenSoFar numbers size 0 marks
none_taken numbers size marks len none = record {
  len = len;
  only = λ number marked. absurd (false≢true (sym (none number) ∙ marked));
  marked = λ place low. absurd (omega arith);
  few = λ bound. let below = none_below marks none bound in omega arith;
}

module _ (numbers : List ℕ) (size count : ℕ) (marks : List Bool) (old : TakenSoFar numbers size count marks)
    (there : count < length numbers) (within : get_or numbers count 0 < size) where
  set_marked : (number : ℕ) → IsMarked marks number → IsMarked (set marks (get_or numbers count 0) true) number
  set_marked number is =
      let len = old.len in
      elim (cases_eq number (get_or numbers count 0)) [
        | inl same ↦ subst (IsMarked (set marks (get_or numbers count 0) true)) (sym same)
            (get_or-set_same marks (get_or numbers count 0) true false (omega arith))
        | inr differs ↦ get_or-set_other marks (get_or numbers count 0) number true false differs ∙ is
      ]

  pub one_more_taken : TakenSoFar numbers size (count + 1) (set marks (get_or numbers count 0) true)
  one_more_taken =
      let len = old.len in
      record {
        len = length-set marks (get_or numbers count 0) true ∙ old.len;
        only = λ number is. elim (cases_eq number (get_or numbers count 0)) [
          | inl same ↦ subst (Contains numbers) (sym same) (Contains-get_or numbers count 0 there)
          | inr differs ↦ old.only number
              (sym (get_or-set_other marks (get_or numbers count 0) number true false differs) ∙ is)
        ];
        marked = λ place low. elim (cases_lt place count) [
          | inl lower ↦ set_marked (get_or numbers place 0) (old.marked place lower)
          | inr higher ↦
              let last : place ≡ count = omega arith in
              subst (λ n. IsMarked (set marks (get_or numbers count 0) true) (get_or numbers n 0)) (sym last)
              (get_or-set_same marks (get_or numbers count 0) true false (omega arith))
        ];
        few = λ bound.
            let more = marked_more marks (get_or numbers count 0) (omega arith) bound in
            let before = old.few bound in
            omega arith;
      }

pub all_taken : (numbers : List ℕ) (size : ℕ) (marks : List Bool) → TakenSoFar numbers size (length numbers) marks
    → MarksTaken numbers marks
all_taken numbers size marks so_far = record {
  marked = λ number. (
    so_far.only number,
    λ (place, there, is). subst (IsMarked marks) (get_or_default numbers place 0 number there ∙ is)
        (so_far.marked place there),
  );
  few = so_far.few;
}
