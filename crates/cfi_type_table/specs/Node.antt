-- A node of a type table, as numbers.
use Rattle.std.specs.Prelude.{ℕ, List, [], slice_index_or}

-- its kind, and its fields
pub record Node : Type 0 where
  pub kind : ℕ
  pub fields : List ℕ

-- a node, of its parts
abbrev pub make_node : (kind : ℕ) → (fields : List ℕ) → Node
make_node kind fields = record { kind = kind; fields = fields }

-- the node of a number that is there
abbrev pub node_of : List Node → ℕ → Node
node_of xs a = slice_index_or xs a (make_node 0 [])
