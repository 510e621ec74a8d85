-- Hexadecimal digits are read one after the other.
use Rattle.std.proofs.Common.{◌≡◌, ℕ, ◌+◌, ◌*◌, ◌<◌, ◌≤◌, ◌^◌, List, [], ◌∷◌, length, drop, get_or, Some, None, refl, ap, sym, ◌∙◌, arith, add-one}
use Rattle.std.proofs.Math.Nat.{pow-suc, pow-le-pow_right}
use Rattle.std.proofs.lemmas.List.{drop_more, drop_all}
use Rattle.rv_line.specs.Number.{hex_digit_in, with_digit, with_digits}

-- the first digits have this value, and the others go on from it
pub record ReadsDigits (digits : List ℕ) (i value : ℕ) : Type 0 where
  pub fits : value < 16 ^ i
  pub same : with_digits (Some 0) digits ≡ with_digits (Some value) (drop i digits)

with_digits-none : (digits : List ℕ) → with_digits None digits ≡ None
with_digits-none [] = refl
with_digits-none (digit ∷ digits) = refl

module _ (digits : List ℕ) (i value : ℕ) (so_far : ReadsDigits digits i value) where
  pub ReadsDigits-next : (digit : ℕ) → i < length digits → digit < 16 → Some digit ≡ hex_digit_in (get_or digits i 0) →
      ReadsDigits digits (i + 1) (16 * value + digit)
  ReadsDigits-next digit inside small is = record {
    fits = rw (add-one i) (omega (arith, pow-suc 16 i, so_far.fits));
    same = so_far.same ∙ ap (with_digits (Some value)) (drop_more digits i 0 inside)
        ∙ ap (λ d. with_digits (with_digit value d) (drop (i + 1) digits)) (sym is);
  }

  -- a byte that is no digit
  pub ReadsDigits-none : i < length digits → None ≡ hex_digit_in (get_or digits i 0) →
      None ≡ with_digits (Some 0) digits
  ReadsDigits-none inside is =
      sym (so_far.same ∙ ap (with_digits (Some value)) (drop_more digits i 0 inside)
      ∙ ap (λ d. with_digits (with_digit value d) (drop (i + 1) digits)) (sym is)
      ∙ with_digits-none (drop (i + 1) digits))

  pub ReadsDigits-below : i ≤ 8 → value < 2 ^ 32
  ReadsDigits-below few =
      let some : 0 < 16 = omega arith in
      let most : 16 ^ i ≤ 16 ^ 8 = pow-le-pow_right some few in
      omega (arith, so_far.fits, most)

  pub ReadsDigits-all : length digits ≤ i → Some value ≡ with_digits (Some 0) digits
  ReadsDigits-all all = sym (so_far.same ∙ ap (with_digits (Some value)) (drop_all i digits all))
