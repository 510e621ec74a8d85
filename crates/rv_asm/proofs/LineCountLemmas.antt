-- A line has at most one name more than bytes.
use Rattle.std.proofs.Common.{◌≡◌, ℕ, suc, ◌+◌, ◌-◌, ◌≤◌, ◌==◌, List, [], ◌∷◌, length, take, drop, Option, Some, None, refl, ap, arith, inl, inr, length-append, take-append-drop}
use Rattle.std.specs.Prelude.{slice_index, nat_lt}
use Rattle.std.specs.List.{position_or_len, before_first, after_first}
use Rattle.std.specs.Str.Lines.{strip_carriage_return}
use Rattle.std.proofs.lemmas.Bool.{cases_Bool, ltb-true}
use Rattle.std.proofs.lemmas.List.{length-take, length-drop}
use Rattle.cfi_text.specs.Lines.{statement_of}
use Rattle.cfi_text.specs.Names.{name_in}
use Rattle.cfi_text.specs.Words.{is_blank, is_solid, unblanked, first_word, after_word}
use Rattle.rv_line.specs.declared.statement.Statement.{Statement}
use Rattle.rv_line.specs.Line.{words_form, statement_in, labelled_in, parts_in, line_in}
use Rattle.rv_line.specs.Operand.{is_byte, cut}
use Rattle.rv_line.specs.Statement.{form_of}
use Rattle.rv_asm.specs.inner.Count.{said_of, count_of}
use Rattle.rv_asm.proofs.FormLemmas.{HasFew, form-few}

said-few : (form : Option Statement) (n : ℕ) → HasFew form n → said_of form ≤ n
said-few None n few = omega arith
said-few (Some s) n few = few s refl

words-said : (word rest : List ℕ) → said_of (words_form word rest) ≤ length word + length rest + 1
words-said [] rest = omega arith
words-said (byte ∷ bytes) rest =
    omega (arith, said-few (form_of (byte ∷ bytes) rest) (2 + length rest) (form-few (byte ∷ bytes) rest))

statement-said : (text : List ℕ) → said_of (statement_in text) ≤ length text + 1
statement-said text =
    let n : ℕ = position_or_len is_blank (unblanked text) in
    omega (
      arith,
      words-said (first_word text) (after_word text),
      length-append (take n (unblanked text)) (drop n (unblanked text)),
      ap (λ (xs : List ℕ). length xs) (take-append-drop n (unblanked text)),
      length-drop (position_or_len is_solid text) text,
    )

labelled-said : (label : Option (List ℕ)) (back text : List ℕ) → suc (length back) ≤ length text
    → count_of (labelled_in label back text) ≤ length text + 1
labelled-said None back text less = omega arith
labelled-said (Some name) back text less = omega (arith, less, statement-said back)

parts-said : (parts : Option (List ℕ × List ℕ)) (text : List ℕ)
    → ((p : List ℕ × List ℕ) → parts ≡ Some p → suc (length p.1) ≤ length text)
    → count_of (parts_in parts text) ≤ length text + 1
parts-said None text less = omega (arith, statement-said text)
parts-said (Some p) text less = labelled-said (name_in (unblanked p.0)) p.1 text (less p refl)

cut-less : (byte : ℕ) (text : List ℕ) (p : List ℕ × List ℕ) → cut byte text ≡ Some p
    → suc (length p.1) ≤ length text
unfolding cut
cut-less byte text p e =
    elim (cases_Bool (nat_lt (position_or_len (is_byte byte) text) (length text))) [
      | inl inside ↦
          let found : Some (before_first (is_byte byte) text, after_first (is_byte byte) text) ≡ Some p =
          rw inside at e in
          let same : (before_first (is_byte byte) text, after_first (is_byte byte) text) ≡ p = cc in
          let less = ltb-true _ _ inside in
          let back = ap (λ (q : List ℕ × List ℕ). length q.1) same in
          omega (arith, less, back, length-drop (position_or_len (is_byte byte) text + 1) text)
      | inr none ↦ let never : None ≡ Some p = rw none at e in cc
    ]

stripped : (line : List ℕ) → length (strip_carriage_return line) ≤ length line
stripped line = elim (cases_Bool (slice_index line (length line - 1) == 13)) [
  | inl ended ↦ rw ended (omega (arith, length-take (length line - 1) line))
  | inr other ↦ rw other (omega arith)
]

-- a line has at most one name more than bytes
pub line_few : (line : List ℕ) → count_of (line_in line) ≤ length line + 1
line_few line =
    let text = statement_of line in
    let front = strip_carriage_return line in
    omega (
      arith,
      parts-said (cut 58 text) text (λ p e. cut-less 58 text p e),
      stripped line,
      length-take (position_or_len (λ byte. byte == 35) front) front,
    )
