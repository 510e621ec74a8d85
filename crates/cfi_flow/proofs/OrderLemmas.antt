-- Edges that are sorted and each once.
use Rattle.std.proofs.Common.{◌≡◌, ◌∙◌, ℕ, ◌+◌, ◌<◌, ◌≤◌, ◌==◌, ◌&&◌, ◌⊎◌, Bool, true, false, List, [], ◌∷◌, length, refl, ap, inl, inr, arith}
use Rattle.std.specs.List.{dedup, dedup_from}
use Rattle.std.specs.declared.cmp.Ordering.TheVariants.{Less, Equal, Greater}
use Rattle.std.specs.Ordering.{nat_cmp, ordering_then}
use Rattle.std.specs.Cmp.{nat_cmp_is}
use Rattle.std.proofs.lemmas.Bool.{cases_Bool, cases_eq, cases_lt, eqb-true, false≢true}
use Rattle.cfi_word.specs.declared.lists.Edge.{Edge}
use Rattle.cfi_flow.specs.Order.{Precedes}

equal_less : Equal ≡ Less → ⊥
equal_less h = cc

greater_less : Greater ≡ Less → ⊥
greater_less h = cc

less_number : (a b : ℕ) → nat_cmp a b ≡ Less → a < b
less_number a b h =
    elim (cases_lt a b) [
      | inl l ↦ l
      | inr m ↦ elim (cases_eq a b) [
        | inl e ↦ let is : Equal ≡ nat_cmp a b = nat_cmp_is a b Equal e in absurd (equal_less (is ∙ h))
        | inr n ↦ let is : Greater ≡ nat_cmp a b = nat_cmp_is a b Greater (omega (arith, m, n)) in absurd (greater_less (is ∙ h))
      ]
    ]

less_pair : (a b c d : ℕ) → ordering_then (nat_cmp a b) (nat_cmp c d) ≡ Less → (a < b) ⊎ ((a ≡ b) × (c < d))
less_pair a b c d h =
    elim (cases_lt a b) [
      | inl l ↦ inl l
      | inr m ↦ elim (cases_eq a b) [
        | inl e ↦
            let is : Equal ≡ nat_cmp a b = nat_cmp_is a b Equal e in
            let rest : nat_cmp c d ≡ Less = ap (λ o. ordering_then o (nat_cmp c d)) is ∙ h in
            inr (e, less_number c d rest)
        | inr n ↦
            let is : Greater ≡ nat_cmp a b = nat_cmp_is a b Greater (omega (arith, m, n)) in
            absurd (greater_less (ap (λ o. ordering_then o (nat_cmp c d)) is ∙ h))
      ]
    ]

-- what comes first in the order of edges precedes
pub precedes : (a b : Edge) → ordering_then (nat_cmp a.branch b.branch) (nat_cmp a.target b.target) ≡ Less
    → Precedes a b
precedes a b h = less_pair a.branch b.branch a.target b.target h

both_hold : (a b : Bool) → (a && b) ≡ true → (a ≡ true) × (b ≡ true)
both_hold true b h = (refl, h)
both_hold false b h = absurd (false≢true h)

abbrev pub make_edge : ℕ → ℕ → Edge
make_edge a b = record { branch = a; target = b }

-- edges with equal slots and addresses are one
pub same_edge : (a b : Edge) → (a.branch == b.branch && a.target == b.target) ≡ true → a ≡ b
same_edge a b h =
    let both = both_hold (a.branch == b.branch) (a.target == b.target) h in
    ap (λ n. make_edge n a.target) (eqb-true a.branch b.branch both.0)
    ∙ ap (λ n. make_edge b.branch n) (eqb-true a.target b.target both.1)

length-dedup_from : {X : Type 0} (same : X → X → Bool) (x : X) (xs : List X)
    → length (dedup_from same x xs) ≤ length xs + 1
length-dedup_from same x [] = omega arith
length-dedup_from same x (y ∷ ys) = elim (cases_Bool (same y x)) [
  | inl dropped ↦ rw dropped (omega (arith, length-dedup_from same x ys))
  | inr kept ↦ rw kept (omega (arith, length-dedup_from same y ys))
]

-- no edge more is left
pub length-dedup : {X : Type 0} (same : X → X → Bool) (xs : List X) → length (dedup same xs) ≤ length xs
length-dedup same [] = omega arith
length-dedup same (x ∷ xs) = omega (arith, length-dedup_from same x xs)

pub most_then : (a b c : ℕ) → a ≤ b → b ≡ c → a ≤ c
most_then a b c h e = omega (arith, h, e)
