-- What words say, and that no word of a line has a space or a line feed.
use Rattle.std.proofs.Common.{◌≡◌, ℕ, ◌*◌, ◌^◌, ◌<◌, ◌≤◌, ◌&&◌, ◌==◌, Bool, true, false, cond, List, [], ◌∷◌, ◌++◌, length, get_or, drop, Option, Some, None, IfSome, nat_lt, refl, sym, ap, ◌∙◌, arith, append_assoc, length-append}
use Rattle.std.proofs.lemmas.List.{append-nil}
use Rattle.std.specs.Prelude.{codes}
use Rattle.std.specs.List.{list_all, slice_split, AllByRecursion}
use Rattle.std.specs.Str.{bytes_eq}
use Rattle.std.specs.Str.Parse.{digits_value}
use Rattle.std.proofs.lemmas.Bool.{cond-true, cond-false, and_parts, and_from, lt-ltb, ltb-true, false_from_ne_true, false≢true}
use Rattle.std.proofs.lemmas.List.Concat.{flat_map-append}
use Rattle.std.proofs.lemmas.List.Splits.{slice_split_at, slice_split_none, length-slice_split}
use Rattle.std.proofs.lemmas.Slice.Eq.{bytes_eq-Decides}
use Rattle.cfi_text.specs.Decimal.{dec_text, small_number_in}
use Rattle.cfi_text.proofs.DecimalLemmas.{small_number_in-says}
use Rattle.cfi_text.specs.Hex.{hex_digits, hex8_text, hex_text}
use Rattle.cfi_text.proofs.HexLemmas.{value-hex_digits, length-hex_digits}
use Rattle.cfi_report.specs.inner.Form.{Lacks, spaced_words, line_form, hex_address, pair_values, is_hex, pairs_in, bytes_in}
use Rattle.cfi_report.specs.Line.{bytes_text}

-- a number below a limit, of which the word is the text
abbrev is_spelled : (value limit : ℕ) → (word text : List ℕ) → Bool
is_spelled value limit word text = nat_lt value limit && bytes_eq word text

spelled-some : (value limit : ℕ) (word text : List ℕ) → value < limit → word ≡ text
    → cond (is_spelled value limit word text) (Some value) None ≡ Some value
spelled-some value limit word text fits same =
    cond-true _ _ _ (and_from _ _ (lt-ltb value limit fits) ((bytes_eq-Decides word text).1 same))

spelled-none : (value limit : ℕ) (word text : List ℕ) → (value < limit → word ≡ text → ⊥)
    → cond (is_spelled value limit word text) (Some value) None ≡ None
spelled-none value limit word text never =
    let is : is_spelled value limit word text ≡ true → ⊥ = λ h.
    let parts = and_parts _ _ h in
    never (ltb-true value limit parts.0) ((bytes_eq-Decides word text).0 parts.1) in
    cond-false _ _ _ (false_from_ne_true _ is)

-- addresses

pub address_in-back : (n : ℕ) → n < 2 ^ 32 → hex_address (hex8_text n) ≡ Some n
unfolding hex_address
address_in-back n fits =
    rw (value-hex_digits 8 n (omega arith)) (spelled-some n (2 ^ 32) (hex8_text n) (hex8_text n) fits refl)

pub address_in-some : (word : List ℕ) (n : ℕ) → n < 2 ^ 32 → word ≡ hex8_text n → hex_address word ≡ Some n
address_in-some word n fits text = rw text (address_in-back n fits)

pub address_in-none : (word : List ℕ) → ((n : ℕ) → n < 2 ^ 32 → word ≡ hex8_text n → ⊥) → hex_address word ≡ None
unfolding hex_address
address_in-none word never = spelled-none _ _ _ _ (never (digits_value 16 word))

-- bytes in two digits each

pair_values-hex : (bytes : List ℕ) → AllByRecursion (λ byte. byte < 256) bytes → pair_values (hex_text bytes) ≡ bytes
pair_values-hex [] fits = refl
pair_values-hex (byte ∷ bytes) fits =
    let value : digits_value 16 (hex_digits 2 byte) ≡ byte = value-hex_digits 2 byte (omega (arith, fits.0)) in
    rw (value, pair_values-hex bytes fits.1) refl

small : (bytes : List ℕ) → AllByRecursion (λ byte. byte < 256) bytes → list_all (λ byte. nat_lt byte 256) bytes ≡ true
small [] fits = refl
small (byte ∷ bytes) fits = and_from _ _ (lt-ltb byte 256 fits.0) (small bytes fits.1)

fit : (bytes : List ℕ) → list_all (λ byte. nat_lt byte 256) bytes ≡ true → AllByRecursion (λ byte. byte < 256) bytes
fit [] h = tt
fit (byte ∷ bytes) h = let parts = and_parts _ _ h in (ltb-true byte 256 parts.0, fit bytes parts.1)

pub pairs_in-back : (bytes : List ℕ) → AllByRecursion (λ byte. byte < 256) bytes
    → pairs_in (hex_text bytes) ≡ Some bytes
unfolding pairs_in
pairs_in-back bytes fits =
    rw (pair_values-hex bytes fits) (cond-true _ _ _ (and_from _ _ (small bytes fits)
    ((bytes_eq-Decides (hex_text bytes) (hex_text bytes)).1 refl)))

pub pairs_in-some : (word bytes : List ℕ) → AllByRecursion (λ byte. byte < 256) bytes → word ≡ hex_text bytes
    → pairs_in word ≡ Some bytes
pairs_in-some word bytes fits text = rw text (pairs_in-back bytes fits)

pub pairs_in-none : (word : List ℕ) → ((bytes : List ℕ) → AllByRecursion (λ byte. byte < 256) bytes
    → word ≡ hex_text bytes → ⊥)
    → pairs_in word ≡ None
unfolding pairs_in
pairs_in-none word never =
    let is : is_hex word (pair_values word) ≡ true → ⊥ = λ h.
    let parts = and_parts _ _ h in
    never (pair_values word) (fit _ parts.0) ((bytes_eq-Decides word (hex_text (pair_values word))).0 parts.1) in
    cond-false _ _ _ (false_from_ne_true _ is)

-- what a word says, it spells

-- a value of which the text is the word
pub record Spells {V : Type 0} (fits : V → Type 0) (text : V → List ℕ) (word : List ℕ) (found : Option V) : Type 0 where
  pub spells : IfSome found (λ value. fits value × (word ≡ text value))

abbrev pub IsSmall : ℕ → Type 0
IsSmall n = n < 2 ^ 32

abbrev pub AreBytes : List ℕ → Type 0
AreBytes bytes = AllByRecursion (λ byte. byte < 256) bytes

module _ {V : Type 0} (fits : V → Type 0) (text : V → List ℕ) (word : List ℕ) where
  one : (test : Bool) (value : V) → (test ≡ true → fits value × (word ≡ text value))
      → Spells fits text word (cond test (Some value) None)
  one true value h = record { spells = h refl }
  one false value h = record { spells = tt }

pub small_number_in-spells : (word : List ℕ) → Spells IsSmall dec_text word (small_number_in word)
small_number_in-spells word = record { spells = small_number_in-says word }

pub address_in-spells : (word : List ℕ) → Spells IsSmall hex8_text word (hex_address word)
unfolding hex_address
address_in-spells word = one IsSmall hex8_text word _ _ (λ h.
    let parts = and_parts _ _ h in
    (ltb-true _ _ parts.0, (bytes_eq-Decides _ _).0 parts.1))

pairs_in-says : (word : List ℕ) → Spells AreBytes hex_text word (pairs_in word)
unfolding pairs_in
pairs_in-says word = one AreBytes hex_text word _ _ (λ h.
    let parts = and_parts _ _ h in
    (fit _ parts.0, (bytes_eq-Decides _ _).0 parts.1))

-- bytes in digits, or a dash for none

dash : (test : Bool) (word : List ℕ) (other : Option (List ℕ)) → (test ≡ true → word ≡ codes "-")
    → Spells AreBytes bytes_text word other → Spells AreBytes bytes_text word (cond test (Some []) other)
dash true word other is h = record { spells = (tt, is refl) }
dash false word other is h = h

some_byte : (word : List ℕ) (found : Option (List ℕ)) → (word ≡ [] → ⊥) → Spells AreBytes hex_text word found
    → Spells AreBytes bytes_text word found
some_byte word None some h = record { spells = tt }
some_byte word (Some []) some h = absurd (some h.spells.1)
some_byte word (Some (byte ∷ bytes)) some h = record { spells = h.spells }

if_byte : (test : Bool) (word : List ℕ) → (test ≡ false → word ≡ [] → ⊥)
    → Spells AreBytes bytes_text word (cond test None (pairs_in word))
if_byte true word some = record { spells = tt }
if_byte false word some = some_byte word (pairs_in word) (some refl) (pairs_in-says word)

pub bytes_in-says : (word : List ℕ) → Spells AreBytes bytes_text word (bytes_in word)
unfolding bytes_in
bytes_in-says word =
    let empty : bytes_eq word [] ≡ false → word ≡ []
    → ⊥ = λ h same. false≢true (sym h ∙ (bytes_eq-Decides word []).1 same) in
    dash _ word _ (bytes_eq-Decides word (codes "-")).0 (if_byte (bytes_eq word []) word empty)

-- a byte has two digits, so no bytes but none are a dash
not_dash : (bytes : List ℕ) → length (hex_text bytes) ≡ 2 * length bytes
not_dash [] = refl
not_dash (byte ∷ bytes) =
    omega (arith, length-append (hex_digits 2 byte) (hex_text bytes), length-hex_digits 2 byte, not_dash bytes)

pub differs : (a b : List ℕ) → (a ≡ b → ⊥) → bytes_eq a b ≡ false
differs a b h = false_from_ne_true _ (λ e. h ((bytes_eq-Decides a b).0 e))

pub bytes_in-back : (bytes : List ℕ) → AreBytes bytes → bytes_in (bytes_text bytes) ≡ Some bytes
unfolding bytes_in
bytes_in-back [] fits = refl
bytes_in-back (byte ∷ bytes) fits =
    let size = not_dash (byte ∷ bytes) in
    let no_dash = differs (hex_text (byte ∷ bytes)) (codes "-")
    (λ same. let one : length (hex_text (byte ∷ bytes)) ≡ 1 = ap length same in omega (arith, size, one)) in
    let some = differs (hex_text (byte ∷ bytes)) []
    (λ same. let none : length (hex_text (byte ∷ bytes)) ≡ 0 = ap length same in omega (arith, size, none)) in
    let word = hex_text (byte ∷ bytes) in
    let digits : Option (List ℕ) = cond (bytes_eq word []) None (pairs_in word) in
    cond-false (bytes_eq word (codes "-")) (Some []) digits no_dash
    ∙ cond-false (bytes_eq word []) None (pairs_in word) some
    ∙ pairs_in-back (byte ∷ bytes) fits

-- the parts of a line between its spaces

pub words_in-first : (text word rest : List ℕ) → text ≡ word ++ 32 ∷ rest → Lacks 32 word
    → spaced_words text ≡ word ∷ spaced_words rest
unfolding spaced_words
words_in-first text word rest split lacks = rw split (slice_split_at _ word 32 rest lacks refl)

pub words_in-last : (text : List ℕ) → Lacks 32 text → spaced_words text ≡ text ∷ []
unfolding spaced_words
words_in-last text lacks = slice_split_none _ text lacks

-- reading pairs of digits

-- the bytes are spelled by what stands before the rest
pub record ReadsPairs (word bytes rest : List ℕ) : Type 0 where
  pub fit : AreBytes bytes
  pub text : word ≡ hex_text bytes ++ rest

AreBytes-push : (bytes : List ℕ) (byte : ℕ) → AreBytes bytes → byte < 256 → AreBytes (bytes ++ byte ∷ [])
AreBytes-push [] byte h fits = (fits, tt)
AreBytes-push (b ∷ bs) byte h fits = (h.0, AreBytes-push bs byte h.1 fits)

-- one pair more was read
pub reads_pairs-next : (word bytes rest after : List ℕ) (byte high low : ℕ) → ReadsPairs word bytes rest
    → rest ≡ high ∷ low ∷ after → byte < 256 → hex_digits 2 byte ≡ high ∷ low ∷ []
    → ReadsPairs word (bytes ++ byte ∷ []) after
reads_pairs-next word bytes rest after byte high low h split fits digits =
    let last : hex_text (byte ∷ []) ≡ high ∷ low ∷ [] = ap (λ (l : List ℕ). l ++ []) digits in
    record {
      fit = AreBytes-push bytes byte h.fit fits;
      text = rw (flat_map-append (hex_digits 2) bytes (byte ∷ []), last, append_assoc)
          (h.text ∙ ap (λ (l : List ℕ). hex_text bytes ++ l) split);
    }

-- two digits are those of one byte
same_pair : (byte other : ℕ) (xs ys : List ℕ) → byte < 256 → other < 256
    → hex_digits 2 byte ++ xs ≡ hex_digits 2 other ++ ys → (byte ≡ other) × (xs ≡ ys)
same_pair byte other xs ys fits fits' same =
    let digits : hex_digits 2 byte ≡ hex_digits 2 other = cc in
    let rest : xs ≡ ys = cc in (
      sym (value-hex_digits 2 byte (omega arith)) ∙ ap (digits_value 16) digits
          ∙ value-hex_digits 2 other (omega arith),
      rest,
    )

-- whatever bytes the word spells, what was read is spelled by the first of them
pub reads_pairs-rest : (bytes others rest : List ℕ) → AreBytes bytes → AreBytes others
    → hex_text bytes ++ rest ≡ hex_text others → (more : List ℕ) ×
    (AreBytes more × (others ≡ bytes ++ more) × (rest ≡ hex_text more))
reads_pairs-rest [] others rest h g same = (others, (g, refl, same))
reads_pairs-rest (byte ∷ bytes) [] rest h g same = cc
reads_pairs-rest (byte ∷ bytes) (other ∷ others) rest h g same =
    let first = same_pair byte other (hex_text bytes ++ rest) (hex_text others) h.0 g.0 (rw append_assoc at same) in
    let more = reads_pairs-rest bytes others rest h.1 g.1 first.1 in
    (more.0, (more.1.0, cc (first.0, more.1.1), more.1.2))

-- an address that was found
pub address_in-is : (word : List ℕ) (found : Option ℕ) → IfSome found IsSmall → IfSome found (λ n. word ≡ hex8_text n)
    → ((n : ℕ) → n < 2 ^ 32 → word ≡ hex8_text n → found ≡ Some n) → found ≡ hex_address word
address_in-is word None small some only =
    rw (address_in-none word (λ n fits text. let found = only n fits text in cc)) refl
address_in-is word (Some n) small some only = rw (address_in-some word n small some) refl

-- where bytes were read, and no pair of digits follows, the word says no bytes
pub pairs_in-stop : (word bytes rest : List ℕ) → ReadsPairs word bytes rest
    → ((more : List ℕ) → AreBytes more → rest ≡ hex_text more → ⊥) → pairs_in word ≡ None
pairs_in-stop word bytes rest h never = pairs_in-none word (λ others fits text.
    let more = reads_pairs-rest bytes others rest h.fit fits (sym h.text ∙ text) in
    never more.0 more.1.0 more.1.2)

-- a list of two or more by its first two
first_two : (rest : List ℕ) → 2 ≤ length rest → rest ≡ get_or rest 0 0 ∷ get_or rest 1 0 ∷ drop 2 rest
first_two [] h = absurd (omega arith)
first_two (a ∷ []) h = absurd (omega arith)
first_two (a ∷ b ∷ rest) h = refl

-- the next two digits are no byte's
pub no_pair : (rest : List ℕ) → 2 ≤ length rest
    → ((byte : ℕ) → byte < 256 → hex_digits 2 byte ≡ get_or rest 0 0 ∷ get_or rest 1 0 ∷ [] → ⊥) → (more : List ℕ)
    → AreBytes more → rest ≡ hex_text more → ⊥
no_pair rest h never [] fits text = let none : length rest ≡ 0 = ap length text in omega (arith, none)
no_pair rest h never (byte ∷ more) fits text =
    let first = first_two rest h in
    never byte fits.0 cc

-- one digit alone is no byte's
pub no_single : (rest : List ℕ) → length rest < 2 → 0 < length rest → (more : List ℕ) → AreBytes more
    → rest ≡ hex_text more → ⊥
no_single rest one some more fits text =
    let size : length rest ≡ 2 * length more = ap length text ∙ not_dash more in
    omega (arith, size)

-- where nothing is left, the word says what was read
pub pairs_in-end : (word bytes rest : List ℕ) → ReadsPairs word bytes rest → length rest ≡ 0
    → pairs_in word ≡ Some bytes
pairs_in-end word bytes [] h none = pairs_in-some word bytes h.fit (h.text ∙ append-nil (hex_text bytes))
pairs_in-end word bytes (byte ∷ rest) h none = absurd (omega (arith, none))

-- eight words or more are no line

more_words : (words : List (List ℕ)) (k a b c d e f : List ℕ) → (words ≡ [] → ⊥)
    → line_form (k ∷ a ∷ b ∷ c ∷ d ∷ e ∷ f ∷ words) ≡ None
more_words [] k a b c d e f some = absurd (some refl)
more_words (g ∷ words) k a b c d e f some = refl

some_words : (text : List ℕ) → spaced_words text ≡ [] → ⊥
unfolding spaced_words
some_words text none =
    let size : length (slice_split (λ byte. byte == 32) text) ≡ 0 = ap length none in
    omega (arith, size, length-slice_split (λ byte. byte == 32) text)

pub too_many : (rest k a b c d e f : List ℕ) → line_form (k ∷ a ∷ b ∷ c ∷ d ∷ e ∷ f ∷ spaced_words rest) ≡ None
too_many rest k a b c d e f = more_words (spaced_words rest) k a b c d e f (some_words rest)
