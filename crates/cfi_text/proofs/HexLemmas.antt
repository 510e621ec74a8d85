-- Hexadecimal digits, read from the first one on and written from the last one back.
use Rattle.std.proofs.Common.{◌≡◌, ℕ, zero, suc, ◌+◌, ◌-◌, ◌*◌, ◌/◌, ◌%◌, ◌^◌, ◌<◌, ◌≤◌, List, [], ◌∷◌, ◌++◌, length, take, take_all, drop, get_or, set, refl, sym, ap, ◌∙◌, append_assoc, arith, length-append, add-one}
use Rattle.std.proofs.Math.Nat.{pow-suc}
use Rattle.std.specs.Char.{digit_value}
use Rattle.std.specs.Str.Parse.{digits_value}
use Rattle.std.proofs.lemmas.Bool.Decides.{nat_tests}
use Rattle.std.proofs.lemmas.Int.Digits.{digits_value_push}
use Rattle.std.proofs.lemmas.List.{drop-set, length-set, take_more}
use Rattle.cfi_text.specs.Hex.{hex_digit, hex_digits}

-- the value of a digit
digit_value-hex_digit : (d : ℕ) → d < 16 → digit_value (hex_digit d) ≡ d
digit_value-hex_digit d small = grind (arith, nat_tests)

pub length-hex_digits : (count value : ℕ) → length (hex_digits count value) ≡ count
length-hex_digits zero value = refl
length-hex_digits (suc count) value =
    let front = length-hex_digits count (value / 16) in
    let all = length-append (hex_digits count (value / 16)) (hex_digit (value % 16) ∷ []) in
    omega (arith, front, all)

-- the digits have their number as their value, so no two numbers have the same
pub value-hex_digits : (count value : ℕ) → value < 16 ^ count → digits_value 16 (hex_digits count value) ≡ value
value-hex_digits zero value small = omega arith
value-hex_digits (suc count) value small =
    let part : value / 16 < 16 ^ count = omega (arith, pow-suc 16 count, small) in
    let front = value-hex_digits count (value / 16) part in
    let last = digit_value-hex_digit (value % 16) (omega arith) in
    let all = digits_value_push 16 (hex_digits count (value / 16)) (hex_digit (value % 16)) in
    omega (arith, front, last, all)

-- one digit more at the end
hex_digits-next : (count value digit : ℕ) → digit < 16 →
    hex_digits (count + 1) (value * 16 + digit) ≡ hex_digits count value ++ hex_digit digit ∷ []
hex_digits-next count value digit small =
    let front : (value * 16 + digit) / 16 ≡ value = omega arith in
    let last : (value * 16 + digit) % 16 ≡ digit = omega arith in
    rw (add-one count, front, last) refl

-- the first `i` bytes of a word are the digits of the value
pub record ReadsHex (word : List ℕ) (i value : ℕ) : Type 0 where
  pub fits : value < 16 ^ i
  pub text : take i word ≡ hex_digits i value

module _ (word : List ℕ) (i value : ℕ) (so_far : ReadsHex word i value) where
  -- one digit more was read
  pub reads_hex-next : (digit : ℕ) → i < length word → digit < 16 → hex_digit digit ≡ get_or word i 0 →
      ReadsHex word (i + 1) (value * 16 + digit)
  reads_hex-next digit inside small is = record {
    fits = rw (add-one i) (omega (arith, pow-suc 16 i, so_far.fits));
    text = rw (take_more word i 0 inside, hex_digits-next i value digit small, so_far.text, is) refl;
  }

  -- a word of eight digits is the spelling of no other number
  pub reads_hex-only : i ≡ 8 → length word ≡ 8 → (other : ℕ) → other < 16 ^ 8 →
      word ≡ hex_digits 8 other → value ≡ other
  reads_hex-only all eight other fits spelled =
      let read_fits : value < 16 ^ 8 = rw all at so_far.fits in
      let read : take 8 word ≡ hex_digits 8 value = rw all at so_far.text in
      let whole : take 8 word ≡ word = take_all 8 word (omega (arith, eight)) in
      sym (value-hex_digits 8 value read_fits)
      ∙ ap (digits_value 16) (sym read ∙ whole ∙ spelled)
      ∙ value-hex_digits 8 other fits

-- the digits of what is left stand before those that were written
pub record WritesHex (value left at : ℕ) (digits : List ℕ) : Type 0 where
  pub size : length digits ≡ 8
  pub within : at ≤ 8
  pub text : hex_digits at left ++ drop at digits ≡ hex_digits 8 value

-- the last digit is written
pub writes_hex-next : (value left at : ℕ) (digits : List ℕ) → WritesHex value left at digits → 0 < at →
    (digit : ℕ) → digit ≡ hex_digit (left % 16) → WritesHex value (left / 16) (at - 1) (set digits (at - 1) digit)
writes_hex-next value left zero digits so_far some digit is = absurd (omega (arith, some))
writes_hex-next value left (suc at) digits so_far some digit is =
    let rest = drop (at + 1) digits in
    let lower : suc at - 1 ≡ at = omega arith in
    let written : drop at (set digits at digit) ≡ digit ∷ rest =
    drop-set digits at digit (omega (arith, so_far.size, so_far.within)) in
    let front = hex_digits at (left / 16) in
    let joined : (front ++ hex_digit (left % 16) ∷ []) ++ rest ≡ front ++ hex_digit (left % 16) ∷ rest =
    append_assoc front (hex_digit (left % 16) ∷ []) rest in
    record {
      size = rw length-set so_far.size;
      within = omega (arith, so_far.within);
      text = rw (lower, written, is, ← joined, add-one at) so_far.text;
    }
