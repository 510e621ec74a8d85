-- Edges in order, each once: by slot, then by address.
use Rattle.std.specs.Prelude.{◌≡◌, ◌<◌, ◌⊎◌, List}
use Rattle.std.specs.List.{AllPairs}
use Rattle.cfi_word.specs.declared.lists.Edge.{Edge}

-- a branch of a lesser slot comes first, and then a lesser address
abbrev pub Precedes : Edge → Edge → Type 0
Precedes a b = (a.branch < b.branch) ⊎ ((a.branch ≡ b.branch) × (a.target < b.target))

-- each edge precedes all behind it
abbrev pub AreInOrder : List Edge → Type 0
AreInOrder edges = AllPairs Precedes edges
