-- The operands of a text that ends in a blank.
use Rattle.std.proofs.Common.{◌≡◌, ℕ, ◌<◌, true, Some, Option, List, [], ◌∷◌, ◌++◌, length, map, refl, ap, append_assoc, arith}
use Rattle.std.specs.List.{slice_split, onto_first}
use Rattle.std.proofs.lemmas.List.Splits.{slice_split_none, slice_split_at, length-slice_split}
use Rattle.cfi_text.specs.Words.{is_blank, has_byte, words_in, is_solid}
use Rattle.rv_line.specs.Operand.{is_byte, operands_in, operand}
use Rattle.rv_listing_law.proofs.ByteLemmas.{AllPass, AllPass-append, differs, is_clear}
use Rattle.rv_listing_law.proofs.CutLemmas.{none-of}

-- one word, between commas or at the end
pub record IsOperand (word : List ℕ) : Type 0 where
  pub some : has_byte word ≡ true
  pub solid : AllPass is_solid word
  pub one : AllPass (differs 44) word
  pub clear : AllPass is_clear word

words-alone : (a : List ℕ) → IsOperand a → words_in a ≡ operand a
unfolding words_in
words-alone a h = rw (slice_split_none is_blank a (none-of is_blank a h.solid), h.some) refl

words-before : (a : List ℕ) → IsOperand a → words_in (a ++ 32 ∷ []) ≡ operand a
unfolding words_in
words-before a h = rw (slice_split_at is_blank a 32 [] (none-of is_blank a h.solid) refl, h.some) refl

-- an operand that is read as this
pub record IsRead {A : Type 0} (read : List ℕ → Option A) (word : List ℕ) (value : A) : Type 0 where
  pub operand : IsOperand word
  pub same : read word ≡ Some value

-- the operands of a text before a blank are these words
pub record AreOperands (text : List ℕ) (words : List (List ℕ)) : Type 0 where
  pub clear : AllPass is_clear text
  pub same : operands_in (text ++ 32 ∷ []) ≡ map operand words

module _ {A : Type 0} {read : List ℕ → Option A} {a : List ℕ} {value : A} (is : IsRead read a value) where
  -- the last operand, and one ahead of others
  pub last : AreOperands a (a ∷ [])
  unfolding operands_in
  last =
      let ends = AllPass-append (differs 44) a (32 ∷ []) is.operand.one refl in
      record {
        clear = is.operand.clear;
        same = rw (slice_split_none (is_byte 44) (a ++ 32 ∷ []) (none-of _ _ ends), words-before a is.operand) refl;
      }

  pub more : {text : List ℕ} {words : List (List ℕ)} → AreOperands text words → AreOperands (a ++ 44 ∷ text) (a ∷ words)
  unfolding operands_in
  more {text} others = record {
    clear = AllPass-append is_clear a (44 ∷ text) is.operand.clear others.clear;
    same = rw (
      append_assoc a (44 ∷ text) (32 ∷ []),
      slice_split_at (is_byte 44) a 44 (text ++ 32 ∷ []) (none-of _ _ is.operand.one) refl,
      words-alone a is.operand,
    ) (ap (λ others. operand a ∷ others) others.same);
  }

-- a blank ahead of a text is no part of an operand
blank-first : (parts : List (List ℕ)) → 0 < length parts → map words_in (onto_first 32 parts) ≡ map words_in parts
unfolding words_in
blank-first [] some = absurd (omega (arith, some))
blank-first (part ∷ parts) some = refl

pub operands-after : (text : List ℕ) → operands_in (32 ∷ text) ≡ operands_in text
unfolding operands_in
operands-after text =
    blank-first (slice_split (is_byte 44) text) (omega (arith, length-slice_split (is_byte 44) text))
