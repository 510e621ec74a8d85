-- Epochs that are less than all versions apart have versions of their own.
use Rattle.std.proofs.Common.{◌≡◌, ℕ, suc, ◌+◌, ◌*◌, ◌/◌, ◌%◌, ◌<◌, ◌≤◌, arith, inl, inr}
use Rattle.std.proofs.lemmas.Bool.{cases_lt}
use Rattle.std.proofs.lemmas.Nat.{div-add-mod'}
use Rattle.std.proofs.Math.Nat.{mul-le-mul_right, suc-mul}

further : (x y n : ℕ) → x < y → x * n + n ≤ y * n
further x y n less =
    let most : suc x * n ≤ y * n = mul-le-mul_right n less in
    omega (arith, suc-mul x n, most)

-- two numbers less than n apart, with one remainder, are one number
pub one_turn : (a b n : ℕ) → a ≤ b → b < a + n → a % n ≡ b % n → a ≡ b
one_turn a b n least most same =
    let x : ℕ = a / n * n in
    let y : ℕ = b / n * n in
    let p : x + a % n ≡ a = div-add-mod' a n in
    let q : y + b % n ≡ b = div-add-mod' b n in
    elim (cases_lt (a / n) (b / n)) [
      | inl less ↦
          let far : x + n ≤ y = further (a / n) (b / n) n less in
          absurd (omega (arith, p, q, far, same, most))
      | inr no_less ↦
          let near : y ≤ x = mul-le-mul_right n no_less in
          omega (arith, p, q, near, same, least)
    ]
