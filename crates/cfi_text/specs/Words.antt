-- The words of what stands on a line: they are separated by spaces or tabs, as many as one likes.
use Rattle.std.specs.Prelude.{ℕ, Bool, true, false, ◌||◌, not, ◌==◌, List, [], ◌∷◌, filter, take, drop}
use Rattle.std.specs.List.{slice_split, position_or_len}

-- a space or a tab
abbrev pub is_blank : (byte : ℕ) → Bool
is_blank byte = byte == 32 || byte == 9

-- any other byte
abbrev pub is_solid : (byte : ℕ) → Bool
is_solid byte = not (is_blank byte)

-- the part has a byte
abbrev pub has_byte : (part : List ℕ) → Bool
has_byte [] = false
has_byte (byte ∷ bytes) = true

-- the words: the parts between blanks that have a byte
unfoldable pub words_in : (statement : List ℕ) → List (List ℕ)
words_in statement = filter has_byte (slice_split is_blank statement)

-- the text without the blanks at its front
abbrev pub unblanked : (text : List ℕ) → List ℕ
unblanked text = drop (position_or_len is_solid text) text

-- its first word, and what comes after it
abbrev pub first_word : (text : List ℕ) → List ℕ
first_word text = take (position_or_len is_blank (unblanked text)) (unblanked text)

-- the text behind its first word
abbrev pub after_word : (text : List ℕ) → List ℕ
after_word text = drop (position_or_len is_blank (unblanked text)) (unblanked text)
