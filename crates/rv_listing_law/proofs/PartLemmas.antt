-- The parts of a listing's lines are operands, and are read back.
use Rattle.std.proofs.Common.{◌≡◌, ℕ, suc, ◌^◌, ◌<◌, Bool, true, Some, List, [], ◌∷◌, ◌++◌, ℤ, pos, negsuc, length, refl, sym, ap, ◌∙◌, append_assoc, arith, length-append}
use Rattle.std.specs.Fmt.{decimal, signed_decimal}
use Rattle.std.proofs.lemmas.Bool.{and_from}
use Rattle.std.proofs.lemmas.Fmt.{decimal_nonempty}
use Rattle.cfi_text.specs.Words.{has_byte, is_solid}
use Rattle.cfi_text.specs.Hex.{hex8_text}
use Rattle.rv_insn.specs.Word.{IsSigned}
use Rattle.rv_text.specs.Text.{hex, offset_text}
use Rattle.rv_line.specs.declared.statement.Low.TheVariants as lows
use Rattle.rv_line.specs.declared.statement.High.TheVariants as highs
use Rattle.rv_line.specs.declared.statement.Target.TheVariants as targets
use Rattle.rv_line.specs.declared.statement.Datum.TheVariants as data_words
use Rattle.rv_line.specs.Immediate.{low_or, low_in, high_or, high_in, number_place_in, place_in}
use Rattle.rv_line.specs.Register.{register_in}
use Rattle.rv_line.specs.Target.{target_in, datum_or, datum_in}
use Rattle.rv_listing_law.proofs.ByteLemmas.{AllPass, AllPass-append, is_plain, differs, plain-decimal, plain-hex_digits, is_clear, solid-all, opening-all, closing-all, comma-all, clear-all}
use Rattle.rv_listing_law.proofs.CutLemmas.{cut-at}
use Rattle.rv_listing_law.proofs.OperandLemmas.{IsOperand, IsRead}
use Rattle.rv_listing_law.proofs.SpelledLemmas.{integer_in-signed, register_in-text, target_in-text}
use Rattle.rv_listing_law.proofs.HexLemmas.{integer_in-hex, integer_in-hex8, plain-hex}

-- ---- words of plain bytes

has_byte-some : (a : List ℕ) → 0 < length a → has_byte a ≡ true
has_byte-some [] h = absurd (omega (arith, h))
has_byte-some (x ∷ a) h = refl

IsOperand-plain : (word : List ℕ) → 0 < length word → AllPass is_plain word → IsOperand word
IsOperand-plain word some h = record {
  some = has_byte-some word some;
  solid = solid-all word h;
  one = comma-all word h;
  clear = clear-all word h;
}

-- the text of a register
abbrev pub register : ℕ → List ℕ
register r = 120 ∷ decimal r

plain-register : (r : ℕ) → r < 32 → AllPass is_plain (register r)
plain-register r h = plain-decimal r (omega (arith, h))

pub IsRead-register : (r : ℕ) → r < 32 → IsRead register_in (register r) r
IsRead-register r h = record {
  operand = IsOperand-plain (register r) (omega arith) (plain-register r h);
  same = register_in-text r h;
}

plain-signed : (imm : ℤ) → IsSigned (2 ^ 11) imm → AllPass is_plain (signed_decimal imm)
plain-signed (pos n) h = plain-decimal n (omega (arith, h))
plain-signed (negsuc n) h = plain-decimal (suc n) (omega (arith, h))

signed-some : (imm : ℤ) → IsSigned (2 ^ 11) imm → 0 < length (signed_decimal imm)
signed-some (pos n) h = decimal_nonempty n (omega (arith, h))
signed-some (negsuc n) h = omega arith

pub IsRead-low : (imm : ℤ) → IsSigned (2 ^ 11) imm → IsRead low_in (signed_decimal imm) (lows.Number imm)
unfolding low_in
IsRead-low imm h = record {
  operand = IsOperand-plain (signed_decimal imm) (signed-some imm h) (plain-signed imm h);
  same = ap (λ o. low_or o (signed_decimal imm)) (integer_in-signed imm h);
}

IsOperand-offset : (off : ℤ) → IsSigned (2 ^ 20) off → IsOperand (offset_text off)
IsOperand-offset (pos n) h =
    IsOperand-plain (46 ∷ 43 ∷ decimal n) (omega arith) (plain-decimal n (omega (arith, h)))
IsOperand-offset (negsuc n) h =
    IsOperand-plain (46 ∷ 45 ∷ decimal (suc n)) (omega arith) (plain-decimal (suc n) (omega (arith, h)))

pub IsRead-target : (off : ℤ) → IsSigned (2 ^ 20) off → IsRead target_in (offset_text off) (targets.Offset off)
IsRead-target off h = record { operand = IsOperand-offset off h; same = target_in-text off h }

pub IsRead-high : (value : ℕ) → value < 2 ^ 20 → IsRead high_in (48 ∷ 120 ∷ hex value) (highs.Number (pos value))
unfolding high_in
IsRead-high value h = record {
  operand = IsOperand-plain (48 ∷ 120 ∷ hex value) (omega arith) (plain-hex value h);
  same = ap (λ o. high_or o (48 ∷ 120 ∷ hex value)) (integer_in-hex value h);
}

pub IsRead-datum : (value : ℕ) → value < 2 ^ 32 →
    IsRead datum_in (48 ∷ 120 ∷ hex8_text value) (data_words.Number (pos value))
unfolding datum_in
IsRead-datum value h = record {
  operand = IsOperand-plain (48 ∷ 120 ∷ hex8_text value) (omega arith) (plain-hex_digits 8 value);
  same = ap (λ o. datum_or o (48 ∷ 120 ∷ hex8_text value)) (integer_in-hex8 value h);
}

-- ---- a number and a register in parentheses

module _ (imm : ℤ) (base : ℕ) (h : IsSigned (2 ^ 11) imm) (k : base < 32) where
  abbrev number : List ℕ
  number = signed_decimal imm

  abbrev place_front : List ℕ
  place_front = number ++ 40 ∷ register base

  abbrev place_word : List ℕ
  place_word = number ++ 40 ∷ (register base ++ 41 ∷ [])

  -- what holds of plain bytes and of parentheses
  whole : (test : ℕ → Bool) → ((xs : List ℕ) → AllPass is_plain xs → AllPass test xs) → test 40 ≡ true →
      test 41 ≡ true → AllPass test place_word
  whole test all opens closes =
      AllPass-append test number (40 ∷ (register base ++ 41 ∷ [])) (all number (plain-signed imm h))
      (and_from _ _ opens (AllPass-append test (register base) (41 ∷ []) (all (register base) (plain-register base k))
      (and_from _ _ closes refl)))

  number_place : number_place_in place_front ≡ Some (record { imm = lows.Number imm; base = base })
  unfolding number_place_in
  number_place =
      rw (
        cut-at 40 number (register base) (opening-all number (plain-signed imm h)),
        integer_in-signed imm h,
        register_in-text base k,
      ) refl

  place : place_in place_word ≡ Some (record { imm = lows.Number imm; base = base })
  unfolding place_in
  place =
      let no_end = AllPass-append (differs 41) number (40 ∷ register base) (closing-all number (plain-signed imm h))
      (closing-all (register base) (plain-register base k)) in
      ap place_in (sym (append_assoc number (40 ∷ register base) (41 ∷ [])))
      ∙ rw (cut-at 41 place_front [] no_end) number_place

  pub IsRead-place : IsRead place_in place_word (record { imm = lows.Number imm; base = base })
  IsRead-place = record {
    operand = record {
      some = has_byte-some place_word (omega (arith, length-append number (40 ∷ (register base ++ 41 ∷ []))));
      solid = whole is_solid solid-all refl refl;
      one = whole (differs 44) comma-all refl refl;
      clear = whole is_clear clear-all refl refl;
    };
    same = place;
  }
