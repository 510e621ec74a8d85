-- The digits of a number, written from the last one back.
use Rattle.std.proofs.Common.{◌≡◌, ℕ, ◌+◌, ◌-◌, ◌/◌, ◌%◌, ◌^◌, ◌<◌, ◌≤◌, List, [], ◌∷◌, ◌++◌, length, drop, set, sym, ap, ◌∙◌, append_assoc, arith, length-append, length-drop}
use Rattle.std.proofs.lemmas.List.{drop-set, length-set}
use Rattle.std.proofs.lemmas.Fmt.{decimal_nonempty, decimal_digit, decimal_step, length-decimal-le}
use Rattle.cfi_text.specs.Decimal.{dec_text}

-- the digits of what is left stand before those that were written, and the last of them goes to the place `at`
pub record Spells (value left at : ℕ) (digits : List ℕ) : Type 0 where
  pub size : length digits ≡ 20
  pub within : at < 20
  pub value_fits : value < 2 ^ 64
  pub fits : left < 2 ^ 64
  pub text : dec_text left ++ drop (at + 1) digits ≡ dec_text value

module _ (value left at : ℕ) (digits : List ℕ) (so_far : Spells value left at digits) where
  -- the list with this byte at the place
  written : (byte : ℕ) → drop at (set digits at byte) ≡ byte ∷ drop (at + 1) digits
  written byte = drop-set digits at byte (omega (arith, so_far.size, so_far.within))

  -- the number's last digit
  split : 10 ≤ left → dec_text left ≡ dec_text (left / 10) ++ (48 + left % 10) ∷ []
  split more = decimal_step left more so_far.fits

  -- a number of two digits or more finds another place
  pub room : 10 ≤ left → 1 ≤ at
  room more =
      let all = length-decimal-le 20 value (omega arith) (omega arith) so_far.value_fits in
      let sum : length (dec_text left) + length (drop (at + 1) digits) ≡ length (dec_text value) =
      sym (length-append (dec_text left) (drop (at + 1) digits)) ∙ ap length so_far.text in
      let two : length (dec_text left) ≡ length (dec_text (left / 10)) + 1 =
      rw (split more) (length-append (dec_text (left / 10)) ((48 + left % 10) ∷ [])) in
      let front = decimal_nonempty (left / 10) (omega (arith, so_far.fits)) in
      omega (arith, all, sum, two, front, length-drop (at + 1) digits, so_far.size)

  -- the last digit is written
  pub spell_next : 10 ≤ left → Spells value (left / 10) (at - 1) (set digits at (48 + left % 10))
  spell_next more =
      let rest = drop (at + 1) digits in
      let back : at - 1 + 1 ≡ at = omega (arith, room more) in
      let front = dec_text (left / 10) in
      let joined : (front ++ (48 + left % 10) ∷ []) ++ rest ≡ front ++ (48 + left % 10) ∷ rest =
      append_assoc front ((48 + left % 10) ∷ []) rest in
      record {
        size = rw length-set so_far.size;
        within = omega (arith, so_far.within);
        value_fits = so_far.value_fits;
        fits = omega (arith, so_far.fits);
        text = rw (back, written (48 + left % 10), ← joined, ← split more) so_far.text;
      }

  -- the first digit is written
  pub spell_end : left < 10 → drop at (set digits at (48 + left)) ≡ dec_text value
  spell_end one =
      let alone : dec_text left ≡ (48 + left) ∷ [] = decimal_digit left one in
      written (48 + left) ∙ ap (λ (l : List ℕ). l ++ drop (at + 1) digits) (sym alone) ∙ so_far.text
