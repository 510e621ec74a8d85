-- Which nodes are reached, over arrows by rows.
use Rattle.std.specs.Prelude.{◌≡◌, ◌⊎◌, ℕ, zero, suc, ◌+◌, ◌<◌, ◌≤◌, Bool, true, false, List, [], ◌∷◌, length, slice_index, slice_index_or}
use Rattle.std.specs.List.{Contains}

-- so many steps along rows lead from one node to the other
abbrev pub IsWalk : (rows : List (List ℕ)) → (steps : ℕ) → (from to : ℕ) → Type 0
IsWalk rows zero a b = a ≡ b
IsWalk rows (suc steps) a b =
    (next : ℕ) × Contains (slice_index_or rows a []) next × IsWalk rows steps next b

-- these are the nodes that are reached
pub record AreReached (rows : List (List ℕ)) (from : ℕ) (order : List ℕ) : Type 0 where
  pub within : (k : ℕ) → Contains order k → k < length rows
  pub sound : (k : ℕ) → Contains order k → (steps : ℕ) × IsWalk rows steps from k
  pub whole : (k steps : ℕ) → IsWalk rows steps from k → Contains order k

-- the node is marked
abbrev pub IsMarked : List Bool → ℕ → Type 0
IsMarked marks k = slice_index_or marks k false ≡ true

-- so many marks, and no node is marked
pub record AreClear (count : ℕ) (marks : List Bool) : Type 0 where
  pub len : length marks ≡ count
  pub none : (k : ℕ) → IsMarked marks k → ⊥

-- how many are not marked
abbrev pub unmarked : List Bool → ℕ
unmarked [] = 0
unmarked (true ∷ marks) = unmarked marks
unmarked (false ∷ marks) = unmarked marks + 1

-- the nodes of a row are marked, and those that were not marked before stand at the end of the order
pub record IsVisited (marks : List Bool) (order row : List ℕ) (new_marks : List Bool) (new_order : List ℕ) : Type 0 where
  pub len : length new_marks ≡ length marks
  pub longer : length order ≤ length new_order
  pub stays : (j : ℕ) → j < length order → slice_index new_order j ≡ slice_index order j
  pub kept : (k : ℕ) → IsMarked marks k → IsMarked new_marks k
  pub done : (k : ℕ) → Contains row k → IsMarked new_marks k
  pub fresh : (k : ℕ) → Contains new_order k → Contains order k ⊎ (Contains row k)
  pub listed : (k : ℕ) → IsMarked new_marks k → IsMarked marks k ⊎ Contains new_order k
  pub count : unmarked new_marks + length new_order ≡ unmarked marks + length order

-- these nodes are not marked any more, and no other one is that was not
pub record IsCleared (marks : List Bool) (nodes : List ℕ) (new_marks : List Bool) : Type 0 where
  pub len : length new_marks ≡ length marks
  pub gone : (k : ℕ) → Contains nodes k → IsMarked new_marks k → ⊥
  pub only : (k : ℕ) → IsMarked new_marks k → IsMarked marks k
