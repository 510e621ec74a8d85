-- Direct edges, by their parts.
use Rattle.std.specs.Prelude.{ℕ}
use Rattle.cfi_word.specs.declared.lists.Edge.{Edge}

-- the edge of a slot and an address
abbrev pub edge_of : (slot address : ℕ) → Edge
edge_of slot address = record { branch = slot; target = address }
