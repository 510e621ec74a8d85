-- Where the trees of two roots become one: the root that each node has then.
use Rattle.std.proofs.Common.{◌≡◌, ◌⊎◌, ℕ, ◌<◌, ◌≤◌, min, max, eqb, List, length, get_or, set, sym, ◌∙◌, ap, subst, arith, inl, inr}
use Rattle.std.proofs.lemmas.Bool.{cases_eq, cases_lt, eq-eqb, ne_eqb, cond-true, cond-false}
use Rattle.std.proofs.lemmas.List.{length-set, get_or-set_same, get_or-set_other}
use Rattle.cfi_class.specs.inner.Forest.{IsForest, root_of, joined_root}
use Rattle.cfi_class.proofs.ForestLemmas.{root_of-root, root_of-parent, root_of-unique}

joined_root-most : (one other root : ℕ) → root ≡ max one other → joined_root one other root ≡ min one other
joined_root-most one other root is = cond-true (eqb root (max one other)) _ _ (eq-eqb root (max one other) is)

joined_root-other : (one other root : ℕ) → (root ≡ max one other → ⊥) → joined_root one other root ≡ root
joined_root-other one other root differs =
    cond-false (eqb root (max one other)) _ _ (ne_eqb root (max one other) differs)

joined_root-least : (one other : ℕ) → joined_root one other (min one other) ≡ min one other
joined_root-least one other =
    elim (cases_eq (min one other) (max one other)) [
      | inl same ↦ joined_root-most one other (min one other) same
      | inr differ ↦ joined_root-other one other (min one other) differ
    ]

pub joined_root-one : (one other : ℕ) → joined_root one other one ≡ min one other
joined_root-one one other =
    elim (cases_lt one other) [
      | inl lower ↦ joined_root-other one other one (λ is. absurd (omega arith)) ∙ omega arith
      | inr higher ↦ joined_root-most one other one (omega arith)
    ]

pub joined_root-two : (one other : ℕ) → joined_root one other other ≡ min one other
joined_root-two one other =
    elim (cases_lt other one) [
      | inl lower ↦ joined_root-other one other other (λ is. absurd (omega arith)) ∙ omega arith
      | inr higher ↦ joined_root-most one other other (omega arith)
    ]

-- roots that become one were one, or the two that were joined
pub joined_root-cases : (one other first second : ℕ) → joined_root one other first ≡ joined_root one other second
    → (first ≡ second) ⊎ (((first ≡ one) × (second ≡ other)) ⊎ ((first ≡ other) × (second ≡ one)))
joined_root-cases one other first second equal =
    elim (cases_eq first (max one other)) [
      | inl first_most ↦ elim (cases_eq second (max one other)) [
        | inl second_most ↦ inl (first_most ∙ sym second_most)
        | inr second_not ↦
            let is : min one other ≡ second = sym (joined_root-most one other first first_most) ∙ equal
            ∙ joined_root-other one other second second_not in
            elim (cases_lt one other) [
              | inl lower ↦ inr (inr (omega arith, omega arith))
              | inr higher ↦ inr (inl (omega arith, omega arith))
            ]
      ]
      | inr first_not ↦ elim (cases_eq second (max one other)) [
        | inl second_most ↦
            let is : first ≡ min one other = sym (joined_root-other one other first first_not) ∙ equal
            ∙ joined_root-most one other second second_most in
            elim (cases_lt one other) [
              | inl lower ↦ inr (inl (omega arith, omega arith))
              | inr higher ↦ inr (inr (omega arith, omega arith))
            ]
        | inr second_not ↦ inl (sym (joined_root-other one other first first_not) ∙ equal
            ∙ joined_root-other one other second second_not)
      ]
    ]

-- what holds of the two roots and of a third holds of the one that it has then
pub joined_root-kept : (P : ℕ → Type 0) → (one other root : ℕ) → P one → P other → P root
    → P (joined_root one other root)
joined_root-kept P one other root of_one of_other of_root =
    elim (cases_eq root (max one other)) [
      | inl most ↦ subst P (sym (joined_root-most one other root most)) (elim (cases_lt one other) [
        | inl lower ↦ let is : one ≡ min one other = omega arith in subst P is of_one
        | inr higher ↦ let is : other ≡ min one other = omega arith in subst P is of_other
      ])
      | inr differs ↦ subst P (sym (joined_root-other one other root differs)) of_root
    ]

-- ---- the step

module _ (parents : List ℕ) (one other : ℕ) (forest : IsForest parents) (one_within : one < length parents)
    (other_within : other < length parents) (one_own : get_or parents one 0 ≡ one)
    (other_own : get_or parents other 0 ≡ other) where
  least_root : root_of parents (min one other) ≡ min one other
  least_root =
      elim (cases_lt one other) [
        | inl lower ↦
            let is : min one other ≡ one = omega arith in
            ap (root_of parents) is ∙ root_of-root parents one one_own ∙ sym is
        | inr higher ↦
            let is : min one other ≡ other = omega arith in
            ap (root_of parents) is ∙ root_of-root parents other other_own ∙ sym is
      ]

  most_root : root_of parents (max one other) ≡ max one other
  most_root =
      elim (cases_lt one other) [
        | inl lower ↦
            let is : max one other ≡ other = omega arith in
            ap (root_of parents) is ∙ root_of-root parents other other_own ∙ sym is
        | inr higher ↦
            let is : max one other ≡ one = omega arith in
            ap (root_of parents) is ∙ root_of-root parents one one_own ∙ sym is
      ]

  pub joined_forest : IsForest (set parents (max one other) (min one other))
  joined_forest node there =
      let within : node < length parents = omega (arith, length-set {A = ℕ}) in
      let most_within : max one other < length parents = omega arith in
      elim (cases_eq node (max one other)) [
        | inl same ↦ subst (λ n. get_or (set parents (max one other) (min one other)) n 0 ≤ n) (sym same)
            (rw get_or-set_same (omega arith))
        | inr differ ↦ rw get_or-set_other (forest node within)
      ]

  joined_shared : (node : ℕ) → node < length (set parents (max one other) (min one other))
      → joined_root one other (root_of parents (get_or (set parents (max one other) (min one other)) node 0))
      ≡ joined_root one other (root_of parents node)
  joined_shared node there =
      let within : node < length parents = omega (arith, length-set {A = ℕ}) in
      let most_within : max one other < length parents = omega arith in
      elim (cases_eq node (max one other)) [
        | inl same ↦
            ap (λ n. joined_root one other (root_of parents (get_or (set parents (max one other) (min one other)) n 0)))
            same
            ∙ ap (λ n. joined_root one other (root_of parents n))
            (get_or-set_same parents (max one other) (min one other) 0 most_within)
            ∙ ap (joined_root one other) least_root
            ∙ joined_root-least one other
            ∙ sym (joined_root-most one other (root_of parents node) (ap (root_of parents) same ∙ most_root))
        | inr differ ↦
            ap (λ n. joined_root one other (root_of parents n))
            (get_or-set_other parents (max one other) node (min one other) 0 differ)
            ∙ ap (joined_root one other) (root_of-parent parents node forest within)
      ]

  joined_own : (node : ℕ) → node < length (set parents (max one other) (min one other))
      → get_or (set parents (max one other) (min one other)) node 0 ≡ node
      → joined_root one other (root_of parents node) ≡ node
  joined_own node there own =
      let most_within : max one other < length parents = omega arith in
      elim (cases_eq node (max one other)) [
        | inl same ↦
            joined_root-most one other (root_of parents node) (ap (root_of parents) same ∙ most_root)
            ∙ sym (get_or-set_same parents (max one other) (min one other) 0 most_within)
            ∙ ap (λ n. get_or (set parents (max one other) (min one other)) n 0) (sym same)
            ∙ own
        | inr differ ↦
            let root : root_of parents node ≡ node = root_of-root parents node
            (sym (get_or-set_other parents (max one other) node (min one other) 0 differ) ∙ own) in
            ap (joined_root one other) root ∙ joined_root-other one other node differ
      ]

  -- the nodes of the higher one get the lower one
  pub joined_roots : (node : ℕ) → node < length parents
      → root_of (set parents (max one other) (min one other)) node ≡ joined_root one other (root_of parents node)
  joined_roots node within =
      root_of-unique (set parents (max one other) (min one other)) (λ n. joined_root one other (root_of parents n))
      node joined_forest (record { shared = joined_shared; own = joined_own }) (rw length-set within)

-- the same, said of the nodes whose roots they are, in the forest before the ways to them were made shorter
pub joined_from : (old new : List ℕ) (one other least most node : ℕ) → most ≡ max one other → least ≡ min one other
    → root_of (set new (max one other) (min one other)) node ≡ joined_root one other (root_of new node)
    → (first second : ℕ) → one ≡ root_of old first → other ≡ root_of old second
    → root_of new node ≡ root_of old node
    → root_of (set new most least) node
    ≡ joined_root (root_of old first) (root_of old second) (root_of old node)
joined_from old new one other least most node is_most is_least joined first second one_is other_is same =
    rw (is_most, is_least, ← one_is, ← other_is, ← same) joined
