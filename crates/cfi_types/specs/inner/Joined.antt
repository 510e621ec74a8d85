-- Several tables as one list of nodes, one table after the other.
use Rattle.std.specs.Prelude.{ℕ, ◌+◌, List, [], ◌∷◌, ◌++◌, length, map}
use Rattle.cfi_type_table.specs.Node.{Node, make_node}
use Rattle.cfi_type_table.specs.Kind.{numbers_of, nodes_of}

-- the node, in a list in which its table begins at this place
abbrev pub shifted : (start : ℕ) → Node → Node
shifted start x = make_node x.kind (numbers_of x ++ map (λ k. start + k) (nodes_of x))

-- the tables' nodes, where the first table begins at this place
abbrev pub joined_from : (start : ℕ) → List (List Node) → List Node
joined_from start [] = []
joined_from start (xs ∷ tables) = map (shifted start) xs ++ joined_from (start + length xs) tables
