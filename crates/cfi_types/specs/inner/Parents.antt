-- Which nodes name each node, and at which of their first places.
use Rattle.std.specs.Prelude.{◌≡◌, ℕ, ◌<◌, Bool, ◌==◌, ◌&&◌, ◌||◌, nat_lt, min, List, [], length, slice_index, slice_index_or}
use Rattle.std.specs.List.{list_any}
use Rattle.cfi_word.specs.declared.limits.TheConstants.{MAX_FIELDS}
use Rattle.cfi_type_table.specs.Node.{Node, node_of}
use Rattle.cfi_type_table.specs.Kind.{nodes_of}
use Rattle.cfi_types.specs.declared.parents.Name.{Name}

-- whether the node that stands at this place of some nodes, one of the first `count`, is the child
abbrev pub is_at : (named : List ℕ) → (count place child : ℕ) → Bool
is_at named count place child = nat_lt place count && (slice_index named place == child)

-- whether a list has the name of this node and place
abbrev pub has_name : List Name → (node place : ℕ) → Bool
has_name names node place = list_any (λ x. (x.node == node) && (x.place == place)) names

-- the same of the child's list
abbrev pub lists_name : (parents : List (List Name)) → (child node place : ℕ) → Bool
lists_name parents child node place = has_name (slice_index_or parents child []) node place

-- the names of the node of this number are added, at the first `count` places
pub record AddsNames (old : List (List Name)) (named : List ℕ) (number count : ℕ) (new : List
    (List Name)) : Type 0 where
  pub len : length new ≡ length old
  pub each : (child node place : ℕ) → child < length old
      → lists_name new child node place
      ≡ (lists_name old child node place || ((number == node) && is_at named count place child))

-- whether a node names the child at this place, one of the first MAX_FIELDS
abbrev pub names_at : Node → (place child : ℕ) → Bool
names_at x place child = is_at (nodes_of x) (min (length (nodes_of x)) MAX_FIELDS) place child

-- each node's list has where the first `count` nodes name it
pub record AreParents (nodes : List Node) (count : ℕ) (parents : List (List Name)) : Type 0 where
  pub len : length parents ≡ length nodes
  pub each : (child node place : ℕ) → child < length nodes
      → lists_name parents child node place ≡ (nat_lt node count && names_at (node_of nodes node) place child)
