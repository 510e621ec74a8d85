-- Nodes that are put where they come to, one node more.
use Rattle.std.proofs.Common.{◌≡◌, ◌∙◌, ℕ, ◌+◌, ◌<◌, true, false, cond, eqb, List, [], ◌∷◌, ◌++◌, length, take, set, get_or, replicate, All, refl, sym, ap, subst, arith, inl, inr}
use Rattle.std.specs.Prelude.{◌||◌}
use Rattle.std.proofs.lemmas.Bool.{cases_eq, cases_lt, eq-eqb, ne_eqb, or_left, or_right}
use Rattle.std.proofs.lemmas.List.{length-set, length-replicate, get_or-set_same, get_or-set_other, get_or-replicate}
use Rattle.std.proofs.lemmas.List.Elements.{All-push, All-nil}
use Rattle.std.proofs.lemmas.List.Folds.{list_any_more}
use Rattle.cfi_types.specs.inner.Hits.{has}
use Rattle.cfi_types.specs.inner.Division.{AreListed, IsPut}
use Rattle.cfi_types.proofs.Choices.{or_false}
use Rattle.cfi_types.proofs.HitLemmas.{has_push}

has_more : (nodes : List ℕ) (i a : ℕ) → i < length nodes
    → has (take (i + 1) nodes) a ≡ (has (take i nodes) a || eqb (get_or nodes i 0) a)
has_more nodes i a lt = list_any_more (λ x. eqb x a) nodes i 0 lt

pub none_put : (old targets nodes : List ℕ) → IsPut old targets (take 0 nodes) old
none_put old targets nodes = record { len = refl; each = λ a lt. refl }

-- one node more
module _ (old mid targets nodes : List ℕ) (i x end : ℕ) (so_far : IsPut old targets (take i nodes) mid)
    (lt : i < length nodes) (is : x ≡ get_or nodes i 0) (below : x < length old)
    (target : end ≡ get_or targets (get_or old x 0) 0) where
  here : has (take (i + 1) nodes) x ≡ true
  here = has_more nodes i x lt ∙ or_right (has (take i nodes) x) (eqb (get_or nodes i 0) x)
      (eq-eqb (get_or nodes i 0) x (sym is))

  there : (a : ℕ) → (a ≡ x → ⊥) → has (take (i + 1) nodes) a ≡ has (take i nodes) a
  there a differ =
      let apart : eqb (get_or nodes i 0) a ≡ false =
      ne_eqb (get_or nodes i 0) a (λ e. differ (sym e ∙ sym is)) in
      has_more nodes i a lt ∙ ap (λ b. has (take i nodes) a || b) apart ∙ or_false (has (take i nodes) a)

  put_at : (new : List ℕ) → length new ≡ length old → get_or new x 0 ≡ end
      → ((a : ℕ) → (a ≡ x → ⊥) → get_or new a 0 ≡ get_or mid a 0) → IsPut old targets (take (i + 1) nodes) new
  put_at new len at others = record {
    len = len;
    each = λ a la. elim (cases_eq a x) [
      | inl same ↦
          subst (λ k. get_or new k 0
          ≡ cond (has (take (i + 1) nodes) k) (get_or targets (get_or old k 0) 0) (get_or old k 0)) (sym same)
          (at ∙ target
          ∙ ap (λ b. cond b (get_or targets (get_or old x 0) 0) (get_or old x 0)) (sym here))
      | inr differ ↦
          others a differ ∙ so_far.each a la
          ∙ ap (λ b. cond b (get_or targets (get_or old a 0) 0) (get_or old a 0)) (sym (there a differ))
    ];
  }

  pub put_same : get_or mid x 0 ≡ end → IsPut old targets (take (i + 1) nodes) mid
  put_same at = put_at mid so_far.len at (λ a differ. refl)

  pub put_more : IsPut old targets (take (i + 1) nodes) (set mid x end)
  put_more =
      put_at (set mid x end) (length-set mid x end ∙ so_far.len)
      (get_or-set_same mid x end 0 (omega (arith, so_far.len, below)))
      (λ a differ. get_or-set_other mid x a end 0 differ)

-- a node is put into a part, and added to the part's list
pub listed_more : (parts : List ℕ) (members : List (List ℕ)) (x end : ℕ) → AreListed parts members
    → x < length parts → end < length parts
    → AreListed (set parts x end) (set members end (get_or members end [] ++ x ∷ []))
listed_more parts members x end listed lx le =
    let row = get_or members end [] ++ x ∷ [] in
    let len = length-set parts x end in
    let lm : end < length members = omega (arith, listed.len, le) in
    record {
      len = length-set members end row ∙ listed.len ∙ sym len;
      below = λ k lk.
          subst (λ n. All (λ a. a < n) (get_or (set members end row) k [])) (sym len)
          (elim (cases_eq k end) [
            | inl same ↦
                subst (λ r. All (λ a. a < length parts) r)
                (sym (ap (λ j. get_or (set members end row) j []) same ∙ get_or-set_same members end row [] lm))
                (All-push (λ a. a < length parts) (get_or members end []) x (listed.below end le) lx)
            | inr differ ↦
                subst (λ r. All (λ a. a < length parts) r) (sym (get_or-set_other members end k row [] differ))
                (listed.below k (omega (arith, len, lk)))
          ]);
      listed = λ a la. elim (cases_eq a x) [
        | inl same ↦
            let at : get_or (set parts x end) a 0 ≡ end =
            ap (λ j. get_or (set parts x end) j 0) same ∙ get_or-set_same parts x end 0 lx in
            let list : get_or (set members end row) (get_or (set parts x end) a 0) [] ≡ row =
            ap (λ j. get_or (set members end row) j []) at ∙ get_or-set_same members end row [] lm in
            ap (λ r. has r a) list ∙ has_push (get_or members end []) x a
            ∙ or_right (has (get_or members end []) a) (eqb x a) (eq-eqb x a (sym same))
        | inr differ ↦
            let at : get_or (set parts x end) a 0 ≡ get_or parts a 0 = get_or-set_other parts x a end 0 differ in
            let was : has (get_or members (get_or parts a 0) []) a ≡ true =
            listed.listed a (omega (arith, len, la)) in
            ap (λ j. has (get_or (set members end row) j []) a) at
            ∙ elim (cases_eq (get_or parts a 0) end) [
              | inl same ↦
                  let list : get_or (set members end row) (get_or parts a 0) [] ≡ row =
                  ap (λ j. get_or (set members end row) j []) same ∙ get_or-set_same members end row [] lm in
                  ap (λ r. has r a) list ∙ has_push (get_or members end []) x a
                  ∙ or_left (has (get_or members end []) a) (eqb x a) (ap (λ j. has (get_or members j []) a)
                  (sym same) ∙ was)
              | inr other ↦
                  ap (λ r. has r a) (get_or-set_other members end (get_or parts a 0) row [] other) ∙ was
            ]
      ];
    }

-- ---- the lists of parts

-- the lists of the first i nodes
pub record ListedSoFar (parts : List ℕ) (i : ℕ) (members : List (List ℕ)) : Type 0 where
  pub len : length members ≡ length parts
  pub below : (k : ℕ) → k < length parts → All (λ a. a < length parts) (get_or members k [])
  pub listed : (a : ℕ) → a < i → has (get_or members (get_or parts a 0) []) a ≡ true

pub none_listed : (parts : List ℕ) (members : List (List ℕ)) → members ≡ replicate (length parts) []
    → ListedSoFar parts 0 members
none_listed parts members none = record {
  len = ap length none ∙ length-replicate (length parts) [];
  below = λ k lt. subst (λ r. All (λ a. a < length parts) r)
      (sym (ap (λ (m : List (List ℕ)). get_or m k []) none ∙ get_or-replicate (length parts) k [] [] lt))
      (All-nil (λ a. a < length parts));
  listed = λ a lt. absurd (omega (arith, lt));
}

pub one_listed : (parts : List ℕ) (i : ℕ) (members : List (List ℕ)) → ListedSoFar parts i members → i < length parts
    → get_or parts i 0 < length parts
    → ListedSoFar parts (i + 1) (set members (get_or parts i 0) (get_or members (get_or parts i 0) [] ++ i ∷ []))
one_listed parts i members so_far lt le =
    let end = get_or parts i 0 in
    let row = get_or members (get_or parts i 0) [] ++ i ∷ [] in
    let lm : end < length members = omega (arith, so_far.len, le) in
    record {
      len = length-set members end row ∙ so_far.len;
      below = λ k lk. elim (cases_eq k end) [
        | inl same ↦
            subst (λ r. All (λ a. a < length parts) r)
            (sym (ap (λ j. get_or (set members end row) j []) same ∙ get_or-set_same members end row [] lm))
            (All-push (λ a. a < length parts) (get_or members end []) i (so_far.below end le) lt)
        | inr differ ↦
            subst (λ r. All (λ a. a < length parts) r) (sym (get_or-set_other members end k row [] differ))
            (so_far.below k lk)
      ];
      listed = λ a la. elim (cases_eq (get_or parts a 0) end) [
        | inl same ↦
            let list : get_or (set members end row) (get_or parts a 0) [] ≡ row =
            ap (λ j. get_or (set members end row) j []) same ∙ get_or-set_same members end row [] lm in
            ap (λ r. has r a) list ∙ has_push (get_or members end []) i a
            ∙ elim (cases_eq a i) [
              | inl here ↦ or_right (has (get_or members end []) a) (eqb i a) (eq-eqb i a (sym here))
              | inr before ↦ or_left (has (get_or members end []) a) (eqb i a)
                  (ap (λ j. has (get_or members j []) a) (sym same) ∙ so_far.listed a (less a before la))
            ]
        | inr other ↦
            let before : a ≡ i → ⊥ = λ e. other (ap (λ j. get_or parts j 0) e) in
            ap (λ r. has r a) (get_or-set_other members end (get_or parts a 0) row [] other)
            ∙ so_far.listed a (less a before la)
      ];
    }
  where
    less : (a : ℕ) → (a ≡ i → ⊥) → a < i + 1 → a < i
    less a differ la = elim (cases_lt a i) [ inl lt ↦ lt | inr le ↦ absurd (differ (omega (arith, la, le))) ]

pub all_listed : (parts : List ℕ) (i : ℕ) (members : List (List ℕ)) → ListedSoFar parts i members
    → length parts ≡ i → AreListed parts members
all_listed parts i members so_far all = record {
  len = so_far.len;
  below = so_far.below;
  listed = λ a la. so_far.listed a (omega (arith, la, all));
}
