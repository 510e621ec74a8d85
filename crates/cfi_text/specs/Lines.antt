-- The lines of a text. A line ends at 0x0a or at the text's end; after the last 0x0a there is none.
use Rattle.std.specs.Prelude.{ℕ, ◌==◌, List, [], ◌∷◌, if◌then◌else◌}
use Rattle.std.specs.List.{enumerate_from, before_first}
use Rattle.std.specs.Str.Lines.{strip_carriage_return}

-- the byte stands ahead of the first line
abbrev pub onto_first : ℕ → List (List ℕ) → List (List ℕ)
onto_first byte [] = (byte ∷ []) ∷ []
onto_first byte (line ∷ lines) = (byte ∷ line) ∷ lines

-- the lines, without their ends
abbrev pub lines_of : (text : List ℕ) → List (List ℕ)
lines_of [] = []
lines_of (byte ∷ rest) = if byte == 10 then [] ∷ lines_of rest else onto_first byte (lines_of rest)

-- the lines with their numbers, from 1
abbrev pub numbered_lines : (text : List ℕ) → List (ℕ × List ℕ)
numbered_lines text = enumerate_from 1 (lines_of text)

-- what stands on a line: a 0x0d at its end is ignored, and `#` begins a comment
abbrev pub statement_of : (line : List ℕ) → List ℕ
statement_of line = before_first (λ byte. byte == 35) (strip_carriage_return line)
