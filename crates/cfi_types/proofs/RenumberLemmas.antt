-- Numbers by those among near tables.
use Rattle.std.proofs.Common.{◌≡◌, ℕ, ◌+◌, ◌-◌, ◌<◌, ◌≤◌, true, false, ltb, List, [], ◌∷◌, length, map, get_or, refl, subst, arith, inl, inr}
use Rattle.std.specs.Prelude.{max}
use Rattle.std.proofs.lemmas.Bool.{cases_lt, lt-ltb}
use Rattle.std.proofs.lemmas.Bool.Decides.{nat_tests}
use Rattle.cfi_types.specs.Classes.{InOrder}
use Rattle.cfi_types.specs.inner.Extending.{renumbered}

pub renumber-old : (back : List ℕ) (next o : ℕ) → o < length back → renumbered back next o ≡ get_or back o 0
renumber-old back next o lt = let is : ltb o (length back) ≡ true = lt-ltb _ _ lt in rw is refl

pub renumber-new : (back : List ℕ) (next o : ℕ) → length back ≤ o → renumbered back next o ≡ next + (o - length back)
renumber-new back next o least =
    let is : ltb o (length back) ≡ false = grind (arith, nat_tests) in rw is refl

-- numbers stay in order
pub order-renumbered : (back : List ℕ) (next : ℕ) → ((o : ℕ) → o < length back → get_or back o 0 < next) → (os : List ℕ)
    (more : ℕ) → InOrder (length back + more) os → InOrder (next + more) (map (renumbered back next) os)
order-renumbered back next below [] more order = tt
order-renumbered back next below (o ∷ os) more order =
    elim (cases_lt o (length back)) [
      | inl less ↦
          let value = renumber-old back next o less in
          let small : get_or back o 0 < next = below o less in
          let same : max (length back + more) (o + 1) ≡ length back + more = omega (arith, less) in
          let stays : next + more ≡ max (next + more) (renumbered back next o + 1) = omega (arith, value, small) in (
            omega (arith, value, small),
            subst (λ (n : ℕ). InOrder n (map (renumbered back next) os)) stays
                (order-renumbered back next below os more
                (subst (λ (n : ℕ). InOrder n os) same order.1)),
          )
      | inr least ↦
          let value = renumber-new back next o least in
          let k : ℕ = o - length back in
          let is : o ≡ length back + k = omega (arith, least) in
          let up : max (length back + more) (o + 1) ≡ length back + max more (k + 1) = omega (arith, is) in
          let goes : next + max more (k + 1) ≡ max (next + more) (renumbered back next o + 1) = omega (arith, value) in (
            omega (arith, value, order.0, is),
            subst (λ (n : ℕ). InOrder n (map (renumbered back next) os)) goes
                (order-renumbered back next below os (max more (k + 1))
                (subst (λ (n : ℕ). InOrder n os) up order.1)),
          )
    ]
