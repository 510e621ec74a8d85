-- The classes of the types of several tables: one number for each node of each table.
use Rattle.std.specs.Prelude.{◌≡◌, ◌↔◌, ℕ, ◌+◌, ◌<◌, ◌≤◌, max, List, [], ◌∷◌, length, map, slice_index, slice_index_or}
use Rattle.std.specs.List.{flat_map}
use Rattle.cfi_type_table.specs.Node.{Node}
use Rattle.cfi_types.specs.Same.{Equal}

-- the table of a number that is there
abbrev pub table_of : List (List Node) → ℕ → List Node
table_of tables t = slice_index_or tables t []

-- the number given to node a of table t
abbrev pub class_of : List (List ℕ) → (t a : ℕ) → ℕ
class_of classes t a = slice_index (slice_index_or classes t []) a

-- table t is there and has a node a
abbrev pub IsNodePlace : List (List Node) → (t a : ℕ) → Type 0
IsNodePlace tables t a = (t < length tables) × (a < length (table_of tables t))

-- numbers in order of first occurrence: each is one of those below `next`, which have come, or `next`
abbrev pub InOrder : (next : ℕ) → List ℕ → Type 0
InOrder next [] = Unit {0}
InOrder next (n ∷ ns) = (n ≤ next) × InOrder (max next (n + 1)) ns

-- the numbers of all nodes: one number exactly where two types are equal, in order of first occurrence
pub record AreClasses (tables : List (List Node)) (classes : List (List ℕ)) : Type 0 where
  pub shape : map length classes ≡ map length tables
  pub equal : (t a u b : ℕ) → IsNodePlace tables t a → IsNodePlace tables u b
      → (class_of classes t a ≡ class_of classes u b) ↔ Equal (table_of tables t) a (table_of tables u) b
  pub order : InOrder 0 (flat_map (λ row. row) classes)
