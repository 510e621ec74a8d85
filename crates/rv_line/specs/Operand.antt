-- The operands of a statement: the parts between commas, each one word.
use Rattle.std.specs.Prelude.{ℕ, Bool, true, false, ◌==◌, nat_lt, List, [], ◌∷◌, length, map, if◌then◌else◌, Option, Some, None, option_and_then}
use Rattle.std.specs.List.{position_or_len, before_first, after_first, slice_split}
use Rattle.cfi_text.specs.Words.{words_in}
use Rattle.cfi_values.specs.Some.{◌>>=◌}

-- the word that a text is, between blanks
abbrev pub only_word : List (List ℕ) → Option (List ℕ)
only_word [] = None
only_word (word ∷ []) = Some word
only_word (word ∷ other ∷ words) = None

-- the one word of a text
abbrev pub word_in : (text : List ℕ) → Option (List ℕ)
word_in text = only_word (words_in text)

-- the byte is this one; `(`, `)`, `,` and `:` are 40, 41, 44 and 58
abbrev pub is_byte : (byte other : ℕ) → Bool
is_byte byte other = other == byte

-- what stands before the first such byte, and what after it, where there is one
unfoldable pub cut : (byte : ℕ) → (text : List ℕ) → Option (List ℕ × List ℕ)
cut byte text =
    if nat_lt (position_or_len (is_byte byte) text) (length text)
    then Some (before_first (is_byte byte) text, after_first (is_byte byte) text) else None

-- the list has nothing
abbrev pub is_empty : {X : Type 0} → List X → Bool
is_empty [] = true
is_empty (x ∷ xs) = false

-- the operands of a statement: what stands between commas, by its words
unfoldable pub operands_in : (text : List ℕ) → List (List (List ℕ))
operands_in text = map words_in (slice_split (is_byte 44) text)

-- an operand that is this word
abbrev pub operand : (word : List ℕ) → List (List ℕ)
operand word = word ∷ []

-- there is no operand
abbrev pub no_operands : (operands : List (List (List ℕ))) → Bool
no_operands ([] ∷ []) = true
no_operands other = false

-- one operand, which can be read
abbrev pub one : {A : Type 0} → (read : List ℕ → Option A) → (operands : List (List (List ℕ))) → Option A
one read (words ∷ []) = option_and_then read (only_word words)
one read other = None

-- two operands
abbrev pub two : {A B : Type 0} → (first : List ℕ → Option A) → (second : List ℕ → Option B)
    → (operands : List (List (List ℕ))) → Option (A × B)
two first second [] = None
two first second (words ∷ others) = do
  a ← option_and_then first (only_word words)
  b ← one second others
  Some (a, b)

-- three operands
abbrev pub three : {A B C : Type 0} → (first : List ℕ → Option A) → (second : List ℕ → Option B)
    → (third : List ℕ → Option C) → (operands : List (List (List ℕ))) → Option (A × B × C)
three first second third [] = None
three first second third (words ∷ others) = do
  a ← option_and_then first (only_word words)
  more ← two second third others
  Some (a, more.0, more.1)
