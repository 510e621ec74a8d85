-- The listing of words: a line a word, with its offset and the mark of the unit that it begins.
-- Units are read from the start on, and one word where none begins; places are word numbers, offsets are in bytes.
use Rattle.std.specs.Prelude.{◌≡◌, ℕ, zero, suc, ◌+◌, ◌-◌, ◌*◌, ◌<◌, List, [], ◌∷◌, ◌++◌, length, take, slice_index, Option, Some, None, codes}
use Rattle.cfi_text.specs.Hex.{hex8_text}
use Rattle.cfi_unit.specs.declared.unit.Unit.{Unit as CodeUnit}
use Rattle.cfi_unit.specs.declared.unit.Unit.TheVariants as units
use Rattle.cfi_unit.specs.Unit.{size_of}
use Rattle.cfi_unit.specs.Code.{BeginsAt}
use Rattle.rv_text.specs.Text.{word_text}

-- the mark of a unit of several words
abbrev pub mark_of : CodeUnit → List ℕ
mark_of (units.Load kind rd rs1 imm) = codes " load"
mark_of (units.Store kind rs1 rs2 imm) = codes " store"
mark_of (units.Check link rs1 imm slot) = codes " check"
mark_of unit = []

-- a piece of the words is a unit, or one word where none begins: its mark, and the number of its words
abbrev pub piece_mark : Option CodeUnit → List ℕ
piece_mark None = []
piece_mark (Some unit) = mark_of unit

-- how many words a unit has; one where none begins
abbrev pub piece_size : Option CodeUnit → ℕ
piece_size None = 1
piece_size (Some unit) = size_of unit

-- a piece with this mark and this many words is read at a place
abbrev pub IsPiece : (words : List ℕ) → (at : ℕ) → Option CodeUnit → Type 0
IsPiece words at None = (at < length words) × ((unit : CodeUnit) → BeginsAt words at unit → ⊥)
IsPiece words at (Some unit) = BeginsAt words at unit

-- what stands at a word of the listing, with its mark and its size
abbrev pub IsPieceAt : (words : List ℕ) → (at : ℕ) → (mark : List ℕ) → (size : ℕ) → Type 0
IsPieceAt words at mark size =
    (piece : Option CodeUnit) × IsPiece words at piece × (mark ≡ piece_mark piece) × (size ≡ piece_size piece)

-- the words from `at` on are read as these pieces
abbrev pub ReadAs : (words : List ℕ) → (at : ℕ) → List (Option CodeUnit) → Type 0
ReadAs words at [] = at ≡ length words
ReadAs words at (piece ∷ pieces) = IsPiece words at piece × ReadAs words (at + piece_size piece) pieces

-- the line of a word, ended by a line feed
abbrev pub line_of : (word offset : ℕ) → (mark : List ℕ) → List ℕ
line_of word offset mark = word_text word ++ codes " # " ++ hex8_text offset ++ mark ++ codes "\n"

-- the lines of so many words without a mark, from a place on
abbrev pub plain_lines : (words : List ℕ) → (at count : ℕ) → List ℕ
plain_lines words at zero = []
plain_lines words at (suc count) =
    line_of (slice_index words at) (4 * at) [] ++ plain_lines words (at + 1) count

-- the lines of so many words from a place on, of which the first has this mark
abbrev pub marked_lines : (words : List ℕ) → (at : ℕ) → (mark : List ℕ) → (size : ℕ) → List ℕ
marked_lines words at mark size =
    line_of (slice_index words at) (4 * at) mark ++ plain_lines words (at + 1) (size - 1)

-- the lines of a piece: its first word has its mark
abbrev pub piece_lines : (words : List ℕ) → (at : ℕ) → Option CodeUnit → List ℕ
piece_lines words at piece = marked_lines words at (piece_mark piece) (piece_size piece)

-- the lines of pieces, one after the other
abbrev pub lines_from : (words : List ℕ) → (at : ℕ) → List (Option CodeUnit) → List ℕ
lines_from words at [] = []
lines_from words at (piece ∷ pieces) = piece_lines words at piece ++ lines_from words (at + piece_size piece) pieces

-- the listing of words that are read as these pieces from the start on
abbrev pub listing_of : (words : List ℕ) → List (Option CodeUnit) → List ℕ
listing_of words pieces = codes ".text\n" ++ lines_from words 0 pieces

-- the text is the listing of the words
abbrev pub IsListing : (words text : List ℕ) → Type 0
IsListing words text =
    (pieces : List (Option CodeUnit)) × ReadAs words 0 pieces × (text ≡ listing_of words pieces)

-- the bytes grew by as many bytes of the text, from the first on, as they have more
abbrev pub AppendsPart : (old new text : List ℕ) → Type 0
AppendsPart old new text = new ≡ old ++ take (length new - length old) text
