-- Tests that are put together, and what is true of one number more.
use Rattle.std.proofs.Common.{◌≡◌, ℕ, ◌+◌, Bool, true, false, ltb, eqb, refl, sym, ap, arith, inl, inr}
use Rattle.std.specs.Prelude.{◌||◌, ◌&&◌}
use Rattle.std.proofs.lemmas.Bool.{cases_order, lt-ltb, le-ltb, eq-eqb, ne_eqb}

pub or_false : (b : Bool) → (b || false) ≡ b
or_false true = refl
or_false false = refl

pub or_assoc : (a b c : Bool) → ((a || b) || c) ≡ (a || (b || c))
or_assoc true b c = refl
or_assoc false b c = refl

pub and_true : (b : Bool) → (b && true) ≡ b
and_true true = refl
and_true false = refl

pub and_false : (b : Bool) → (b && false) ≡ false
and_false true = refl
and_false false = refl

-- what a test takes out of an `or`
pub or_and_or : (o s a b : Bool) → ((o || (s && a)) || (s && b)) ≡ (o || (s && (a || b)))
or_and_or true s a b = refl
or_and_or false true a b = refl
or_and_or false false a b = refl

-- a test of numbers below one number more
pub below_more : (P : ℕ → Bool) (j q : ℕ) → (ltb q (j + 1) && P q) ≡ ((ltb q j && P q) || (eqb j q && P j))
below_more P j q =
    elim (cases_order q j) [
      | inl same ↦
          let now : ltb q (j + 1) ≡ true = lt-ltb q (j + 1) (omega (arith, same)) in
          let before : ltb q j ≡ false = le-ltb q j (omega (arith, same)) in
          let here : eqb j q ≡ true = eq-eqb j q (sym same) in
          rw (now, before, here) (ap P same)
      | inr order ↦ elim order [
        | inl less ↦
            let now : ltb q (j + 1) ≡ true = lt-ltb q (j + 1) (omega (arith, less)) in
            let before : ltb q j ≡ true = lt-ltb q j less in
            let apart : eqb j q ≡ false = ne_eqb j q (λ e. absurd (omega (arith, less, e))) in
            rw (now, before, apart) (sym (or_false (P q)))
        | inr more ↦
            let now : ltb q (j + 1) ≡ false = le-ltb q (j + 1) (omega (arith, more)) in
            let before : ltb q j ≡ false = le-ltb q j (omega (arith, more)) in
            let apart : eqb j q ≡ false = ne_eqb j q (λ e. absurd (omega (arith, more, e))) in
            rw (now, before, apart) refl
      ]
    ]
