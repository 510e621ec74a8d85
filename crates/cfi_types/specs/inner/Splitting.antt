-- One step of a refinement: each class of nodes is split by what its nodes name. A class is named by its least node.
use Rattle.std.specs.Prelude.{◌≡◌, ◌≢◌, ℕ, ◌<◌, ◌≤◌, List, ◌∷◌, ◌++◌, length, map, slice_index}
use Rattle.std.specs.List.{AllByRecursion}
use Rattle.cfi_type_table.specs.Node.{Node, node_of}
use Rattle.cfi_type_table.specs.Kind.{numbers_of, nodes_of}
use Rattle.cfi_type_table.specs.Spelling.{NamesBelow}

-- a node's kind and numbers, and the classes of the nodes that it names
abbrev pub signature : (classes : List ℕ) → Node → List ℕ
signature classes x = x.kind ∷ (numbers_of x ++ map (λ k. slice_index classes k) (nodes_of x))

-- by what a node's part of its class is known: its class and its signature
abbrev pub key_of : (nodes : List Node) → (classes : List ℕ) → (a : ℕ) → List ℕ
key_of nodes classes a = slice_index classes a ∷ signature classes (node_of nodes a)

-- m is the least node that is known by the key of node a
pub record IsFirstOfKey (key : ℕ → List ℕ) (a m : ℕ) : Type 0 where
  pub within : m ≤ a
  pub alike : key m ≡ key a
  pub least : (l : ℕ) → l < m → key l ≢ key a

-- the least node of each node's part
pub record IsSplit (nodes : List Node) (classes next : List ℕ) : Type 0 where
  pub len : length next ≡ length nodes
  pub least : (a : ℕ) → a < length nodes → IsFirstOfKey (key_of nodes classes) a (slice_index next a)

-- each node has the signature of the one that its class is named by
abbrev pub IsStill : (nodes : List Node) → (classes : List ℕ) → Type 0
IsStill nodes classes = (a : ℕ) → a < length nodes
    → signature classes (node_of nodes (slice_index classes a)) ≡ signature classes (node_of nodes a)

-- nodes whose list names no node outside it
abbrev pub IsClosed : List Node → Type 0
IsClosed nodes = AllByRecursion (NamesBelow (length nodes)) nodes

-- each node's number is at most its own place
abbrev pub IsLow : List ℕ → Type 0
IsLow classes = (a : ℕ) → a < length classes → slice_index classes a ≤ a
