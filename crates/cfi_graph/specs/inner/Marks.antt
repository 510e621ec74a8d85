-- Marks of names.
use Rattle.std.specs.Prelude.{ℕ, ◌+◌, ◌*◌, ◌%◌, Bool, false, List, [], ◌∷◌, slice_index_or}
use Rattle.cfi_graph.specs.declared.marks.TheConstants.{MARKS, BYTE_WEIGHT}

-- the mark of a name, where this is that of the bytes before
abbrev pub mark_after : (mark : ℕ) → List ℕ → ℕ
mark_after mark [] = mark
mark_after mark (byte ∷ bytes) = mark_after ((BYTE_WEIGHT * mark + byte) % MARKS) bytes

-- the mark of a name, by all its bytes
abbrev pub mark_of : (name : List ℕ) → ℕ
mark_of name = mark_after 0 name

-- whether the mark of the name is one of these
abbrev pub has_mark : List Bool → (name : List ℕ) → Bool
has_mark marks name = slice_index_or marks (mark_of name) false
