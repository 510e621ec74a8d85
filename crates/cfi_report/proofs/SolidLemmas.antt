-- No word of a line has a space, and no line has a line feed but at its end.
use Rattle.std.proofs.Common.{◌≡◌, ℕ, ◌/◌, ◌%◌, ◌<◌, ◌≤◌, Bool, true, false, nat_eq, nat_lt, List, [], ◌∷◌, length, map, Some, None, refl, ap, ◌∙◌, arith, length-append}
use Rattle.std.specs.List.{list_all, join_with_byte, AllByRecursion}
use Rattle.std.proofs.lemmas.Bool.{and_parts, and_from, lt-ltb, ltb-true, ne_eqb}
use Rattle.std.proofs.lemmas.Bool.Decides.{nat_tests}
use Rattle.std.proofs.lemmas.List.Elements.{All-nil, All-cons, All-append}
use Rattle.std.proofs.lemmas.List.Splits.{slice_split_at, slice_split_none}
use Rattle.cfi_text.specs.Decimal.{dec_text, AreDigits}
use Rattle.cfi_text.specs.Hex.{hex_digit, hex8_text, hex_text}
use Rattle.cfi_text.proofs.DecimalLemmas.{IsDecimal-dec_text}
use Rattle.cfi_text.specs.Names.{is_name, is_name_byte}
use Rattle.cfi_plan.specs.declared.journal.Who.{Who}
use Rattle.cfi_plan.specs.declared.journal.Who.TheVariants.{Script, Guest}
use Rattle.cfi_plan.specs.declared.journal.JournalLine.{JournalLine}
use Rattle.cfi_plan.specs.declared.journal.JournalLine.TheVariants.{LoadOk, LoadAgain, LoadFull, LoadPlace, LoadVerify, LoadVersions, LoadEpochs, LoadRetired, RefreshOk, RefreshVersions, RefreshEpochs, RetireOk, RetireNotLive, RetireInUse, RetireVersions, RetireEpochs}
use Rattle.cfi_unit.specs.declared.log.Log.TheVariants.{Pick, Open, Cause}
use Rattle.cfi_unit.specs.declared.log.Stop.TheVariants.{Exit, Halt, Align, Fuel}
use Rattle.cfi_report.specs.declared.line.Line.{Line}
use Rattle.cfi_report.specs.declared.line.Line.TheVariants as line
use Rattle.cfi_report.specs.Line.{Field, Word, Decimal, Address, Name, Bytes, field_text, bytes_text, who_field, what_fields, line_fields, line_words, line_text}
use Rattle.cfi_report.specs.Report.{IsField, IsLine}
use Rattle.cfi_report.specs.inner.Form.{Lacks, spaced_words}

-- each byte of the word is above a space
abbrev solid : List ℕ → Bool
solid word = list_all (λ byte. nat_lt 32 byte) word

digits-solid : (word : List ℕ) → AreDigits word → solid word ≡ true
digits-solid [] h = refl
digits-solid (byte ∷ bytes) h = and_from _ _ (lt-ltb 32 byte (omega (arith, h.0))) (digits-solid bytes h.1)

names-solid : (word : List ℕ) → list_all is_name_byte word ≡ true → solid word ≡ true
names-solid [] h = refl
names-solid (byte ∷ bytes) h =
    let parts = and_parts _ _ h in and_from _ _ (lt-ltb 32 byte (name_byte byte parts.0)) (names-solid bytes parts.1)
  where
    name_byte : (byte : ℕ) → is_name_byte byte ≡ true → 32 < byte
    name_byte byte h = grind (arith, nat_tests)

name-solid : (word : List ℕ) → is_name word ≡ true → solid word ≡ true
unfolding is_name
name-solid word h = names-solid word (and_parts _ _ (and_parts _ _ h).0).1

digit-solid : (d : ℕ) → nat_lt 32 (hex_digit d) ≡ true
digit-solid d = grind (arith, nat_tests)

hex-solid : (bytes : List ℕ) → solid (hex_text bytes) ≡ true
hex-solid [] = refl
hex-solid (byte ∷ bytes) =
    and_from _ _ (digit-solid (byte / 16 % 16)) (and_from _ _ (digit-solid (byte % 16)) (hex-solid bytes))

bytes-solid : (bytes : List ℕ) → solid (bytes_text bytes) ≡ true
bytes-solid [] = refl
bytes-solid (byte ∷ bytes) = hex-solid (byte ∷ bytes)

address-solid : (n : ℕ) → solid (hex8_text n) ≡ true
address-solid n =
    rw (
      digit-solid (n / 16 / 16 / 16 / 16 / 16 / 16 / 16 % 16),
      digit-solid (n / 16 / 16 / 16 / 16 / 16 / 16 % 16),
      digit-solid (n / 16 / 16 / 16 / 16 / 16 % 16),
      digit-solid (n / 16 / 16 / 16 / 16 % 16),
      digit-solid
          (n / 16 / 16 / 16 % 16),
      digit-solid (n / 16 / 16 % 16),
      digit-solid (n / 16 % 16),
      digit-solid (n % 16),
    ) refl

-- a fixed word is solid
abbrev fixed : Field → Bool
fixed (Word word) = solid word
fixed _ = true

field-solid : (field : Field) → IsField field → fixed field ≡ true → solid (field_text field) ≡ true
field-solid (Word word) h f = f
field-solid (Decimal n) h f = digits-solid (dec_text n) (IsDecimal-dec_text n (omega (arith, h))).digits
field-solid (Address n) h f = address-solid n
field-solid (Name word) h f = name-solid word h
field-solid (Bytes bytes) h f = bytes-solid bytes

who-fixed : (who : Who) → fixed (who_field who) ≡ true
who-fixed Script = refl
who-fixed (Guest n) = refl

what-fixed : (what : JournalLine) → list_all fixed (what_fields what) ≡ true
what-fixed (LoadOk n e p) = refl
what-fixed (LoadAgain n p) = refl
what-fixed (LoadFull n) = refl
what-fixed (LoadPlace n k) = refl
what-fixed (LoadVerify n k p) = refl
what-fixed (LoadVersions n g q) = refl
what-fixed (LoadEpochs n) = refl
what-fixed (LoadRetired n) = refl
what-fixed (RefreshOk e) = refl
what-fixed (RefreshVersions g q) = refl
what-fixed RefreshEpochs = refl
what-fixed (RetireOk n e p) = refl
what-fixed (RetireNotLive n) = refl
what-fixed (RetireInUse n u) = refl
what-fixed (RetireVersions n g q) = refl
what-fixed (RetireEpochs n) = refl

line-fixed : (one : Line) → list_all fixed (line_fields one) ≡ true
line-fixed line.Title = refl
line-fixed (line.Force e p) = refl
line-fixed (line.Module one) = refl
line-fixed (line.Journal entry) = rw (who-fixed entry.who, what-fixed entry.what) refl
line-fixed (line.Guest n e) = refl
line-fixed (line.Log (Pick p c)) = refl
line-fixed (line.Log (Open n a p)) = refl
line-fixed (line.Log (Cause n c)) = refl
line-fixed (line.Out bytes) = refl
line-fixed (line.Stop (Some (Exit code))) = refl
line-fixed (line.Stop (Some (Halt place))) = refl
line-fixed (line.Stop (Some (Align place))) = refl
line-fixed (line.Stop (Some Fuel)) = refl
line-fixed (line.Stop None) = refl
line-fixed (line.Units n) = refl
line-fixed (line.Steps n) = refl
line-fixed line.End = refl

abbrev IsSolid : List ℕ → Type 0
IsSolid word = solid word ≡ true

fields-solid : (fields : List Field) → AllByRecursion IsField fields → list_all fixed fields ≡ true
    → AllByRecursion IsSolid (map field_text fields)
fields-solid [] h f = tt
fields-solid (field ∷ fields) h f =
    let parts = and_parts _ _ f in (field-solid field h.0 parts.0, fields-solid fields h.1 parts.1)

words-solid : (one : Line) → IsLine one → AllByRecursion IsSolid (line_words one)
words-solid one h = fields-solid (line_fields one) h.0 (line-fixed one)

-- a solid word has no byte up to a space
lacks : (byte : ℕ) → byte ≤ 32 → (word : List ℕ) → solid word ≡ true → Lacks byte word
lacks byte low [] h = All-nil (λ other. nat_eq other byte ≡ false)
lacks byte low (first ∷ word) h =
    let parts = and_parts _ _ h in
    let other : nat_eq first byte ≡ false = ne_eqb first byte (λ e. omega (arith, e, ltb-true 32 first parts.0)) in
    All-cons (λ other. nat_eq other byte ≡ false) first word other (lacks byte low word parts.1)

-- words that spaces part
parted : (word : List ℕ) (words : List (List ℕ)) → AllByRecursion IsSolid (word ∷ words)
    → spaced_words (join_with_byte 32 (word ∷ words)) ≡ word ∷ words
unfolding spaced_words
parted word [] h = slice_split_none _ word (lacks 32 (omega arith) word h.0)
parted word (next ∷ words) h =
    slice_split_at _ word 32 (join_with_byte 32 (next ∷ words)) (lacks 32 (omega arith) word h.0) refl
    ∙ ap (λ (l : List (List ℕ)). word ∷ l) (parted next words h.1)

no_end : (word : List ℕ) (words : List (List ℕ)) → AllByRecursion IsSolid (word ∷ words)
    → Lacks 10 (join_with_byte 32 (word ∷ words))
no_end word [] h = lacks 10 (omega arith) word h.0
no_end word (next ∷ words) h =
    All-append (λ other. nat_eq other 10 ≡ false) word _ (lacks 10 (omega arith) word h.0)
    (All-cons (λ other. nat_eq other 10 ≡ false) 32 _ refl (no_end next words h.1))

-- the same of a line, whose first word has a byte

some_words : (P : List (List ℕ) → Type 0)
    → ((byte : ℕ) (word : List ℕ) (words : List (List ℕ)) → P ((byte ∷ word) ∷ words)) → (one : Line)
    → P (line_words one)
some_words P h line.Title = h _ _ _
some_words P h (line.Force e p) = h _ _ _
some_words P h (line.Module one) = h _ _ _
some_words P h (line.Journal entry) = h _ _ _
some_words P h (line.Guest n e) = h _ _ _
some_words P h (line.Log (Pick p c)) = h _ _ _
some_words P h (line.Log (Open n a p)) = h _ _ _
some_words P h (line.Log (Cause n c)) = h _ _ _
some_words P h (line.Out bytes) = h _ _ _
some_words P h (line.Stop stop) = h _ _ _
some_words P h (line.Units n) = h _ _ _
some_words P h (line.Steps n) = h _ _ _
some_words P h line.End = h _ _ _

pub line_words-parted : (one : Line) → IsLine one → spaced_words (join_with_byte 32 (line_words one)) ≡ line_words one
line_words-parted one h =
    some_words (λ words. AllByRecursion IsSolid words → spaced_words (join_with_byte 32 words) ≡ words)
    (λ byte word words. parted (byte ∷ word) words) one (words-solid one h)

pub line_words-no_end : (one : Line) → IsLine one → Lacks 10 (join_with_byte 32 (line_words one))
line_words-no_end one h =
    some_words (λ words. AllByRecursion IsSolid words → Lacks 10 (join_with_byte 32 words))
    (λ byte word words. no_end (byte ∷ word) words) one (words-solid one h)

long : (byte : ℕ) (word : List ℕ) (words : List (List ℕ)) → 1 ≤ length (join_with_byte 32 ((byte ∷ word) ∷ words))
long byte word [] = omega arith
long byte word (next ∷ words) = omega arith

-- a line has two bytes or more
pub line_text-long : (one : Line) → 2 ≤ length (line_text one)
line_text-long one =
    omega (
      arith,
      some_words (λ words. 1 ≤ length (join_with_byte 32 words)) long one,
      length-append (join_with_byte 32 (line_words one)) (10 ∷ []),
    )
