-- Trees over the numbers from 0: each node has a parent that is no greater, and a root is its own parent.
use Rattle.std.specs.Prelude.{◌≡◌, ℕ, zero, suc, ◌<◌, ◌≤◌, List, length, slice_index, ◌==◌, min, max, if◌then◌else◌}

-- no node's parent is greater than the node
abbrev pub IsForest : (parents : List ℕ) → Type 0
IsForest parents = (node : ℕ) → node < length parents → slice_index parents node ≤ node

-- where so many steps from a node to its parent lead
unfoldable pub ancestor_of : (steps : ℕ) → (parents : List ℕ) → (node : ℕ) → ℕ
ancestor_of zero parents node = node
ancestor_of (suc steps) parents node = ancestor_of steps parents (slice_index parents node)

-- the root of a node's tree: as many steps as the node's number lead to it, since each but the last ones goes down
unfoldable pub root_of : (parents : List ℕ) → (node : ℕ) → ℕ
root_of parents node = ancestor_of node parents node

-- the root that a node has where the trees of two roots have become one tree, whose root is the lower one
abbrev pub joined_root : (one other root : ℕ) → ℕ
joined_root one other root = if root == max one other then min one other else root

-- each node has the root that it had
abbrev pub HasSameRoots : (old new : List ℕ) → Type 0
HasSameRoots old new = (node : ℕ) → node < length old → root_of new node ≡ root_of old node
