-- The hexadecimal numbers of a listing are read back: upper immediates without leading zeros, words in eight digits.
use Rattle.std.proofs.Common.{◌≡◌, ℕ, zero, suc, ◌+◌, ◌*◌, ◌/◌, ◌%◌, ◌^◌, ◌<◌, ◌≤◌, Bool, true, false, ◌&&◌, ◌==◌, Some, List, [], ◌∷◌, ◌++◌, pos, length, refl, sym, ap, ◌∙◌, append_assoc, append-nil, arith}
use Rattle.std.specs.Prelude.{nat_le, option_map}
use Rattle.std.specs.Fmt.{digit_glyph, digits_onto, digits}
use Rattle.std.proofs.Math.Nat.{pow-suc}
use Rattle.std.proofs.lemmas.Bool.{cond-true, and_from, le-leb}
use Rattle.std.proofs.lemmas.Bool.Decides.{nat_tests}
use Rattle.cfi_text.specs.Hex.{hex_digit, hex_digits, hex8_text}
use Rattle.cfi_text.proofs.HexLemmas.{length-hex_digits}
use Rattle.rv_text.specs.Text.{hex}
use Rattle.rv_line.specs.Number.{hex_digit_in, with_digit, with_digits, hex_in, integer_in}
use Rattle.rv_listing_law.proofs.ByteLemmas.{AllPass, is_plain, plain-hex_digit}

-- a digit is read back
hex_digit_in-digit : (d : ℕ) → d < 16 → hex_digit_in (hex_digit d) ≡ Some d
hex_digit_in-digit d small = grind (arith, nat_tests)

-- the digits of a number before other digits
with_digits-hex : (count value : ℕ) (rest : List ℕ) → value < 16 ^ count →
    with_digits (Some 0) (hex_digits count value ++ rest) ≡ with_digits (Some value) rest
with_digits-hex zero value rest small =
    let none : 0 ≡ value = omega (arith, small) in
    ap (λ v. with_digits (Some v) rest) none
with_digits-hex (suc count) value rest small =
    let part : value / 16 < 16 ^ count = omega (arith, pow-suc 16 count, small) in
    let whole : 16 * (value / 16) + value % 16 ≡ value = omega arith in
    let last = hex_digit (value % 16) in
    ap (with_digits (Some 0)) (append_assoc (hex_digits count (value / 16)) (last ∷ []) rest)
    ∙ with_digits-hex count (value / 16) (last ∷ rest) part
    ∙ ap (λ d. with_digits (with_digit (value / 16) d) rest) (hex_digit_in-digit (value % 16) (omega arith))
    ∙ ap (λ v. with_digits (Some v) rest) whole

hex_in-by : (ds : List ℕ) (value : ℕ) → 1 ≤ length ds → length ds ≤ 8 → with_digits (Some 0) ds ≡ Some value →
    hex_in ds ≡ Some value
hex_in-by ds value some few same =
    let within = and_from _ _ (le-leb 1 (length ds) some) (le-leb (length ds) 8 few) in
    cond-true (nat_le 1 (length ds) && nat_le (length ds) 8) _ _ within ∙ same

pub integer_in-hex8 : (value : ℕ) → value < 2 ^ 32 → integer_in (48 ∷ 120 ∷ hex8_text value) ≡ Some (pos value)
unfolding integer_in
integer_in-hex8 value small =
    let size = length-hex_digits 8 value in
    let all = ap (with_digits (Some 0)) (sym (append-nil (hex8_text value)))
    ∙ with_digits-hex 8 value [] (omega (arith, small)) in
    ap (option_map pos) (hex_in-by (hex8_text value) value (omega (arith, size)) (omega (arith, size)) all)

-- what digits before others are
pub record Spells (most value : ℕ) (text rest : List ℕ) : Type 0 where
  pub same : with_digits (Some 0) text ≡ with_digits (Some value) rest
  pub plain : AllPass is_plain rest → AllPass is_plain text
  pub some : length rest < length text
  pub few : length text ≤ most + length rest

-- a last digit
Spells-last : (most value : ℕ) (rest : List ℕ) → value < 16 → 1 ≤ most →
    Spells most value (digit_glyph false (value % 16) ∷ rest) rest
Spells-last most value rest small some =
    let low : value % 16 ≡ value = omega arith in
    record {
      same = ap (λ d. with_digits (with_digit 0 d) rest) (hex_digit_in-digit (value % 16) (omega arith))
          ∙ ap (λ v. with_digits (Some v) rest) (omega arith);
      plain = λ all. and_from _ _ (plain-hex_digit (value % 16) (omega arith)) all;
      some = omega arith;
      few = omega (arith, some);
    }

-- one digit more
Spells-more : (most value : ℕ) (text rest : List ℕ) →
    Spells most (value / 16) text (digit_glyph false (value % 16) ∷ rest) → Spells (suc most) value text rest
Spells-more most value text rest front =
    let whole : 16 * (value / 16) + value % 16 ≡ value = omega arith in
    record {
      same = front.same
          ∙ ap (λ d. with_digits (with_digit (value / 16) d) rest) (hex_digit_in-digit (value % 16) (omega arith))
          ∙ ap (λ v. with_digits (Some v) rest) whole;
      plain = λ all. front.plain (and_from _ _ (plain-hex_digit (value % 16) (omega arith)) all);
      some = omega (arith, front.some);
      few = omega (arith, front.few);
    }

Spells-step : (most count value : ℕ) (rest : List ℕ) →
    Spells most (value / 16) (digits_onto count 16 false (value / 16) (digit_glyph false (value % 16) ∷ rest))
    (digit_glyph false (value % 16) ∷ rest) → (v : Bool) → (value / 16 == 0) ≡ v →
    Spells (suc most) value (digits_onto (suc count) 16 false value rest) rest
Spells-step most count value rest front true is =
    let small : value < 16 = grind (arith, nat_tests) in
    rw is (Spells-last (suc most) value rest small (omega arith))
Spells-step most count value rest front false is = rw is (Spells-more most value _ rest front)

Spells-digits : (most count value : ℕ) (rest : List ℕ) → most ≤ count → value < 16 ^ suc most →
    Spells (suc most) value (digits_onto (suc count) 16 false value rest) rest
Spells-digits zero count value rest within small =
    let none : value / 16 ≡ 0 = omega (arith, small) in
    rw none (Spells-last 1 value rest (omega (arith, small)) (omega arith))
Spells-digits (suc most) zero value rest within small = absurd (omega (arith, within))
Spells-digits (suc most) (suc count) value rest within small =
    let part : value / 16 < 16 ^ suc most = omega (arith, pow-suc 16 (suc most), small) in
    let last = digit_glyph false (value % 16) in
    let front = Spells-digits most count (value / 16) (last ∷ rest) (omega (arith, within)) part in
    Spells-step (suc most) (suc count) value rest front (value / 16 == 0) refl

-- an upper immediate
module _ (value : ℕ) (small : value < 2 ^ 20) where
  spelled : Spells 5 value (hex value) []
  unfolding digits
  spelled = Spells-digits 4 63 value [] (omega arith) (omega (arith, small))

  pub integer_in-hex : integer_in (48 ∷ 120 ∷ hex value) ≡ Some (pos value)
  unfolding integer_in
  integer_in-hex = ap (option_map pos) (hex_in-by (hex value) value (omega (arith, spelled.some)) (omega (
    arith,
    spelled.few,
  )) spelled.same)

  pub plain-hex : AllPass is_plain (hex value)
  plain-hex = spelled.plain refl
