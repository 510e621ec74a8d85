-- Decimal spellings by std's words for digits.
use Rattle.std.proofs.Common.{◌≡◌, ℕ, zero, suc, ◌+◌, ◌-◌, ◌*◌, ◌^◌, ◌<◌, ◌≤◌, ◌&&◌, Bool, true, nat_lt, nat_le, Option, None, Some, IfSome, List, length, get_or, take, take_all, refl, sym, ap, ◌∙◌, rules, arith}
use Rattle.std.specs.Int.{IsInRange}
use Rattle.std.specs.Char.{digit_value}
use Rattle.std.specs.Fmt.{decimal}
use Rattle.std.specs.Str.{bytes_eq}
use Rattle.std.specs.Str.Parse.{AllDigits, digits_value}
use Rattle.std.proofs.lemmas.Bool.{cond-true, cond-false, cond_both, and_parts, and_from, lt-ltb, le-leb, leb-true, ltb-true, false_from_ne_true}
use Rattle.std.proofs.lemmas.Bool.Decides.{nat_tests}
use Rattle.std.proofs.lemmas.Slice.Eq.{bytes_eq-Decides}
use Rattle.std.proofs.lemmas.Int.Digits.{digits_more, digits_value_more}
use Rattle.std.proofs.lemmas.Str.Parse.{IsNumeralModel, numerals_by_weight, digit_at, digits_value-take-le}
use Rattle.std.proofs.lemmas.Fmt.{decimal_nonempty, digits_decimal, digits_value-decimal, first_decimal, decimal_digit, decimal-digits_value}
use Rattle.cfi_text.specs.Decimal.{AreDigits, place_value, IsDecimal, dec_text, number_in, at_most, small_number_in}

-- the digits and their value are std's
pub numerals : IsNumeralModel AreDigits place_value
numerals = numerals_by_weight AreDigits (search rules) place_value (search rules)

no_zero : (value : ℕ) → value < 2 ^ 64 → get_or (dec_text value) 0 0 ≡ 48 → length (dec_text value) ≡ 1
no_zero zero fits is = rw (decimal_digit zero (omega arith)) refl
no_zero (suc n) fits is = absurd (omega (arith, first_decimal (suc n) (omega arith) fits))

pub IsDecimal-dec_text : (value : ℕ) → value < 2 ^ 64 → IsDecimal (dec_text value) value
IsDecimal-dec_text value fits = record {
  some = decimal_nonempty value fits;
  digits = digits_decimal numerals value fits;
  no_zero_ahead = no_zero value fits;
  same = digits_value-decimal numerals value fits;
}

-- a number has one spelling
pub dec_text-IsDecimal : (word : List ℕ) (value : ℕ) → value < 2 ^ 64 → IsDecimal word value → word ≡ dec_text value
dec_text-IsDecimal word value fits is =
    let written : decimal (place_value word) ≡ word =
    decimal-digits_value numerals word is.digits is.some is.no_zero_ahead (rw is.same fits) in
    sym written ∙ ap dec_text is.same

-- the value of a digit
pub digit_value-digit : (c : ℕ) → IsInRange 48 57 c → digit_value c ≡ c - 48
digit_value-digit c digit = grind (arith, nat_tests)

-- the value of the first `i` bytes of a word, which are digits
pub record Reads (word : List ℕ) (i value : ℕ) : Type 0 where
  pub fits : value < 2 ^ 64
  pub digits : AllDigits 10 (take i word)
  pub same : value ≡ digits_value 10 (take i word)

-- a word of digits has no other byte
pub digit_inside : (word : List ℕ) (i : ℕ) → i < length word → AreDigits word → IsInRange 48 57 (get_or word i 0)
digit_inside word i inside digits = digit_at word i (numerals.to word digits) inside

module _ (word : List ℕ) (i value : ℕ) (so_far : Reads word i value) where
  abbrev digit : ℕ
  digit = get_or word i 0

  -- the value with one digit more
  value_next : i < length word → IsInRange 48 57 digit → value * 10 + (digit - 48) ≡ digits_value 10 (take (i + 1) word)
  value_next inside is = rw (digits_value_more 10 word i inside, digit_value-digit digit is, so_far.same) refl

  -- one digit more was read
  pub reads_next : (more : ℕ) → i < length word → IsInRange 48 57 digit → more < 2 ^ 64 →
      more ≡ value * 10 + (digit - 48) → Reads word (i + 1) more
  reads_next more inside is fits step = record {
    fits = fits;
    digits = digits_more 10 word i inside so_far.digits (omega (arith, digit_value-digit digit is));
    same = step ∙ value_next inside is;
  }

  -- a part of a number is no greater than the number
  pub value_bound : i < length word → AreDigits word → value * 10 + (digit - 48) ≤ place_value word
  value_bound inside digits =
      let whole = numerals.same word (numerals.to word digits) in
      let front = value_next inside (digit_inside word i inside digits) in
      rw (front, whole) (digits_value-take-le 10 word (i + 1) (omega arith))

  -- all digits were read
  module _ (all : length word ≤ i) where
    whole : take i word ≡ word
    whole = take_all i word all

    std_digits : AllDigits 10 word
    std_digits = rw whole at so_far.digits

    pub digits_whole : AreDigits word
    digits_whole = numerals.from word std_digits

    pub value_whole : place_value word ≡ value
    value_whole =
        let std_value : value ≡ digits_value 10 word = rw whole at so_far.same in
        numerals.same word std_digits ∙ sym std_value

-- a word that a number spells is its spelling
pub IsDecimal-text : (word : List ℕ) (value : ℕ) → value < 2 ^ 64 → word ≡ dec_text value → IsDecimal word value
IsDecimal-text word value fits is = rw is (IsDecimal-dec_text value fits)

-- the word is the spelling of its own value
abbrev is_spelled : List ℕ → Bool
is_spelled word = nat_lt (place_value word) (2 ^ 64) && bytes_eq word (dec_text (place_value word))

-- the number that a word spells
pub number_in-some : (word : List ℕ) (value : ℕ) → value < 2 ^ 64 → word ≡ dec_text value → number_in word ≡ Some value
unfolding number_in
number_in-some word value fits text =
    let decimal = IsDecimal-text word value fits text in
    let small : place_value word < 2 ^ 64 = omega (arith, decimal.same, fits) in
    let same : word ≡ dec_text (place_value word) = rw decimal.same text in
    let spelled = and_from _ _ (lt-ltb (place_value word) (2 ^ 64) small) ((bytes_eq-Decides word (dec_text (place_value
    word))).1 same) in
    cond-true (is_spelled word) _ _ spelled ∙ ap Some decimal.same

pub number_in-none : (word : List ℕ) → ((value : ℕ) → value < 2 ^ 64 → word ≡ dec_text value → ⊥)
    → number_in word ≡ None
unfolding number_in
number_in-none word never =
    let spelled = λ (h : is_spelled word ≡ true).
    let parts = and_parts _ _ h in
    never (place_value word) (ltb-true _ _ parts.0) ((bytes_eq-Decides word (dec_text (place_value word))).0 parts.1) in
    cond-false (is_spelled word) _ _ (false_from_ne_true (is_spelled word) spelled)

-- what a reader of decimals finds is that number
pub number_in-found : (word : List ℕ) (found : Option ℕ) → IfSome found (λ value. value < 2 ^ 64)
    → IfSome found (λ value. IsDecimal word value)
    → ((value : ℕ) → value < 2 ^ 64 → IsDecimal word value → found ≡ Some value) → found ≡ number_in word
number_in-found word None fits is only =
    sym (number_in-none word (λ value small text. let h = only value small (IsDecimal-text word value small text) in cc))
number_in-found word (Some value) fits is only =
    sym (number_in-some word value fits (dec_text-IsDecimal word value fits is))

-- a number of a word is at most this
pub at_most-text : (most n : ℕ) → n ≤ most → most < 2 ^ 64 → at_most most (number_in (dec_text n)) ≡ Some n
at_most-text most n within small =
    ap (at_most most) (number_in-some (dec_text n) n (omega arith) refl)
    ∙ cond-true (nat_le n most) _ _ (le-leb n most within)

pub small_number_in-back : (n : ℕ) → n < 2 ^ 32 → small_number_in (dec_text n) ≡ Some n
unfolding small_number_in
small_number_in-back n fits = at_most-text (2 ^ 32 - 1) n (omega arith) (omega arith)

-- what a word says, it spells
number_in-says : (word : List ℕ) → IfSome (number_in word) (λ n. word ≡ dec_text n)
unfolding number_in
number_in-says word =
    cond_both (is_spelled word) (Some (place_value word)) None (λ o. IfSome o (λ n. word ≡ dec_text n))
    (λ h. (bytes_eq-Decides word (dec_text (place_value word))).0 (and_parts _ _ h).1) (λ _. tt)

at_most-says : (most limit : ℕ) → most < limit → (P : ℕ → Type 0) → (found : Option ℕ) → IfSome found P
    → IfSome (at_most most found) (λ n. (n < limit) × P n)
at_most-says most limit below P None h = tt
at_most-says most limit below P (Some n) h =
    cond_both (nat_le n most) (Some n) None (λ o. IfSome o (λ n. (n < limit) × P n))
    (λ t. (omega (arith, leb-true n most t), h)) (λ _. tt)

pub small_number_in-says : (word : List ℕ) → IfSome (small_number_in word) (λ n. (n < 2 ^ 32) × (word ≡ dec_text n))
unfolding small_number_in
small_number_in-says word =
    at_most-says (2 ^ 32 - 1) (2 ^ 32) (omega arith) (λ n. word ≡ dec_text n) (number_in word) (number_in-says word)
