-- A text cut at its first comma has the operand before it, and those after it.
use Rattle.std.proofs.Common.{◌≡◌, ℕ, suc, ◌+◌, ◌≤◌, Bool, false, List, [], ◌∷◌, length, map, Option, Some, None, refl, ap, ◌∙◌, arith, inl, inr}
use Rattle.std.specs.Borrow.{Bor}
use Rattle.std.specs.Prelude.{nat_lt, MatchOption}
use Rattle.std.specs.List.{position_or_len, before_first, after_first, slice_split, onto_first}
use Rattle.std.proofs.lemmas.Bool.{cases_Bool, ltb-true, ltb-false}
use Rattle.std.proofs.lemmas.List.Splits.{slice_split_first}
use Rattle.cfi_text.specs.Words.{words_in}
use Rattle.rv_line.specs.Operand.{is_byte, cut, operands_in, no_operands, one}

split-whole : (p : ℕ → Bool) (text : List ℕ) → length text ≤ position_or_len p text
    → slice_split p text ≡ text ∷ []
split-whole p [] all = refl
split-whole p (x ∷ text) all = elim (cases_Bool (p x)) [
  | inl passes ↦ let never : suc (length text) ≤ 0 = rw passes at all in absurd (omega (arith, never))
  | inr other ↦
      let later : suc (length text) ≤ 1 + position_or_len p text = rw other at all in
      rw other (ap (onto_first x) (split-whole p text (omega (arith, later))))
]

pub operands-cut : (text front back : List ℕ) → cut 44 text ≡ Some (front, back)
    → operands_in text ≡ words_in front ∷ operands_in back
unfolding cut operands_in
operands-cut text front back is =
    elim (cases_Bool (nat_lt (position_or_len (is_byte 44) text) (length text))) [
      | inl inside ↦
          let found : Some (before_first (is_byte 44) text, after_first (is_byte 44) text) ≡ Some (front, back) =
          rw inside at is in
          let same : (before_first (is_byte 44) text, after_first (is_byte 44) text) ≡ (front, back) = cc in
          let first = ap (λ (q : List ℕ × List ℕ). q.0) same in
          let second = ap (λ (q : List ℕ × List ℕ). q.1) same in
          ap (map words_in) (slice_split_first (is_byte 44) text 0 (ltb-true _ _ inside))
          ∙ ap (λ part. words_in part ∷ map words_in (slice_split (is_byte 44) (after_first (is_byte 44) text))) first
          ∙ ap (λ part. words_in front ∷ map words_in (slice_split (is_byte 44) part)) second
      | inr none ↦ let never : ◌≡◌ {A = Option (List ℕ × List ℕ)} None (Some (front, back)) = rw none at is in cc
    ]

pub operands-whole : (text : List ℕ) → cut 44 text ≡ None → operands_in text ≡ words_in text ∷ []
unfolding cut operands_in
operands-whole text is =
    elim (cases_Bool (nat_lt (position_or_len (is_byte 44) text) (length text))) [
      | inl inside ↦
          let never : ◌≡◌ {A = Option (List ℕ × List ℕ)}
          (Some (before_first (is_byte 44) text, after_first (is_byte 44) text)) None =
          rw inside at is in
          cc
      | inr none ↦ ap (map words_in) (split-whole (is_byte 44) text (ltb-false _ _ none))
    ]

-- the same of what is found
pub operands-found : (text : List ℕ) (found : Option (Bor (List ℕ) × Bor (List ℕ)))
    → MatchOption found (cut 44 text ≡ None) (λ parts. cut 44 text ≡ Some (parts.0.now, parts.1.now))
    → MatchOption found (operands_in text ≡ words_in text ∷ [])
    (λ parts. operands_in text ≡ words_in parts.0.now ∷ operands_in parts.1.now)
operands-found text None is = operands-whole text is
operands-found text (Some parts) is = operands-cut text parts.0.now parts.1.now is

-- a text has an operand at least
parts-some : (p : ℕ → Bool) (text : List ℕ) (P : List (List ℕ) → Type 0)
    → ((part : List ℕ) (parts : List (List ℕ)) → P (part ∷ parts)) → P (slice_split p text)
parts-some p [] P all = all [] []
parts-some p (x ∷ text) P all = elim (cases_Bool (p x)) [
  | inl passes ↦ rw passes (all [] (slice_split p text))
  | inr other ↦ rw other (parts-some p text (λ parts. P (onto_first x parts)) (λ part parts. all (x ∷ part) parts))
]

-- so behind a comma there is one more
pub not-none : (words : List (List ℕ)) (back : List ℕ) → false ≡ no_operands (words ∷ operands_in back)
unfolding operands_in
not-none words back =
    parts-some (is_byte 44) back (λ parts. false ≡ no_operands (words ∷ map words_in parts)) (λ part parts. no words part parts)
  where
    no : (words : List (List ℕ)) (part : List ℕ) (parts : List (List ℕ))
        → false ≡ no_operands (words ∷ map words_in (part ∷ parts))
    no [] part parts = refl
    no (word ∷ words) part parts = refl

pub not-one : {A : Type 0} (read : List ℕ → Option A) (words : List (List ℕ)) (back : List ℕ)
    → None ≡ one read (words ∷ operands_in back)
unfolding operands_in
not-one read words back =
    parts-some (is_byte 44) back (λ parts. None ≡ one read (words ∷ map words_in parts)) (λ part parts. refl)
