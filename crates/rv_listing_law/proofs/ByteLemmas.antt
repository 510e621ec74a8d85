-- The bytes of numbers and registers: none of them is a blank or ends a part.
use Rattle.std.proofs.Common.{◌≡◌, ℕ, zero, suc, ◌/◌, ◌%◌, ◌^◌, ◌<◌, Bool, true, ◌&&◌, not, List, [], ◌∷◌, ◌++◌, refl, ◌∙◌, arith}
use Rattle.std.specs.List.{list_all}
use Rattle.std.specs.Int.{IsInRange}
use Rattle.std.proofs.lemmas.Bool.{and_parts, and_from}
use Rattle.std.proofs.lemmas.Bool.Decides.{nat_tests}
use Rattle.std.proofs.lemmas.List.Folds.{list_all-append}
use Rattle.cfi_text.specs.Decimal.{AreDigits, dec_text}
use Rattle.cfi_text.specs.Hex.{hex_digit, hex_digits}
use Rattle.cfi_text.specs.Words.{is_solid}
use Rattle.cfi_text.proofs.DecimalLemmas.{IsDecimal-dec_text}
use Rattle.rv_line.specs.Operand.{is_byte}

-- all bytes of the text pass
abbrev pub AllPass : (test : ℕ → Bool) → List ℕ → Type 0
AllPass test xs = list_all test xs ≡ true

pub AllPass-append : (test : ℕ → Bool) (xs ys : List ℕ) → AllPass test xs → AllPass test ys → AllPass test (xs ++ ys)
AllPass-append test xs ys h k = list_all-append test xs ys ∙ and_from _ _ h k

pub AllPass-more : (p q : ℕ → Bool) → ((byte : ℕ) → p byte ≡ true → q byte ≡ true) → (xs : List ℕ) → AllPass p xs →
    AllPass q xs
AllPass-more p q h [] all = refl
AllPass-more p q h (x ∷ xs) all =
    let parts = and_parts _ _ all in and_from _ _ (h x parts.0) (AllPass-more p q h xs parts.1)

-- a byte that is not this one
abbrev pub differs : (byte other : ℕ) → Bool
differs byte other = not (is_byte byte other)

-- a byte that ends no line, begins no comment and ends no label
abbrev pub is_clear : (byte : ℕ) → Bool
is_clear byte = differs 10 byte && differs 35 byte && differs 58 byte

-- a byte of a number or a register
abbrev pub is_plain : (byte : ℕ) → Bool
is_plain byte = is_solid byte && differs 10 byte && differs 35 byte && differs 40 byte && differs 41 byte
    && differs 44 byte
    && differs 58 byte

plain-digit : (byte : ℕ) → IsInRange 48 57 byte → is_plain byte ≡ true
plain-digit byte h = grind (arith, nat_tests)

pub plain-digits : (xs : List ℕ) → AreDigits xs → AllPass is_plain xs
plain-digits [] h = refl
plain-digits (x ∷ xs) h = and_from _ _ (plain-digit x h.0) (plain-digits xs h.1)

pub plain-decimal : (n : ℕ) → n < 2 ^ 64 → AllPass is_plain (dec_text n)
plain-decimal n small = plain-digits (dec_text n) (IsDecimal-dec_text n small).digits

pub plain-hex_digit : (d : ℕ) → d < 16 → is_plain (hex_digit d) ≡ true
plain-hex_digit d small = grind (arith, nat_tests)

pub plain-hex_digits : (count value : ℕ) → AllPass is_plain (hex_digits count value)
plain-hex_digits zero value = refl
plain-hex_digits (suc count) value =
    AllPass-append is_plain (hex_digits count (value / 16)) _ (plain-hex_digits count (value / 16))
    (and_from _ _ (plain-hex_digit (value % 16) (omega arith)) refl)

-- a plain byte is none of those that end a part
pub solid-all : (xs : List ℕ) → AllPass is_plain xs → AllPass is_solid xs
solid-all = AllPass-more is_plain is_solid (λ byte h. grind (arith, nat_tests))

pub opening-all : (xs : List ℕ) → AllPass is_plain xs → AllPass (differs 40) xs
opening-all = AllPass-more is_plain (differs 40) (λ byte h. grind (arith, nat_tests))

pub closing-all : (xs : List ℕ) → AllPass is_plain xs → AllPass (differs 41) xs
closing-all = AllPass-more is_plain (differs 41) (λ byte h. grind (arith, nat_tests))

pub comma-all : (xs : List ℕ) → AllPass is_plain xs → AllPass (differs 44) xs
comma-all = AllPass-more is_plain (differs 44) (λ byte h. grind (arith, nat_tests))

pub clear-all : (xs : List ℕ) → AllPass is_plain xs → AllPass is_clear xs
clear-all = AllPass-more is_plain is_clear (λ byte h. grind (arith, nat_tests))

pub line-all : (xs : List ℕ) → AllPass is_plain xs → AllPass (differs 10) xs
line-all = AllPass-more is_plain (differs 10) (λ byte h. grind (arith, nat_tests))

-- a clear text ends no line, begins no comment and ends no label
pub line-clear : (xs : List ℕ) → AllPass is_clear xs → AllPass (differs 10) xs
line-clear = AllPass-more is_clear (differs 10) (λ byte h. grind (arith, nat_tests))

pub comment-clear : (xs : List ℕ) → AllPass is_clear xs → AllPass (differs 35) xs
comment-clear = AllPass-more is_clear (differs 35) (λ byte h. grind (arith, nat_tests))

pub label-clear : (xs : List ℕ) → AllPass is_clear xs → AllPass (differs 58) xs
label-clear = AllPass-more is_clear (differs 58) (λ byte h. grind (arith, nat_tests))
