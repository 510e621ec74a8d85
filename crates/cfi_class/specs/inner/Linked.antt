-- Slots and addresses that edges link, in whatever direction, as nodes of one forest: slots first, then code words.
use Rattle.std.specs.Prelude.{◌≡◌, ℕ, ◌+◌, ◌*◌, ◌/◌, ◌%◌, ◌<◌, List, length}
use Rattle.cfi_class.specs.inner.Forest.{IsForest, root_of}

-- an end of an edge
pub data End : Type 0 where
  Slot : (slot : ℕ) → End
  Address : (address : ℕ) → End

-- one end leads along edges to another
pub data Linked (joins : (slot address : ℕ) → Type 0) : End → End → Type 0 where
  same : {one : End} → Linked joins one one
  to_address : {slot address : ℕ} {other : End} → joins slot address → Linked joins (Address address) other
      → Linked joins (Slot slot) other
  to_slot : {slot address : ℕ} {other : End} → joins slot address → Linked joins (Slot slot) other
      → Linked joins (Address address) other

-- an end that so many slots and code words have
abbrev pub IsEnd : (slots code_words : ℕ) → End → Type 0
IsEnd slots code_words (Slot slot) = slot < slots
IsEnd slots code_words (Address address) = (address % 4 ≡ 0) × (address < 4 * code_words)

-- its node
abbrev pub end_node : (slots : ℕ) → End → ℕ
end_node slots (Slot slot) = slot
end_node slots (Address address) = slots + address / 4

-- the root is the node of an end
abbrev pub IsNodeOfEnd : (slots code_words : ℕ) → (node : End → ℕ) → (root : ℕ) → Type 0
IsNodeOfEnd slots code_words node root = (top : End) × IsEnd slots code_words top × (node top ≡ root)

-- a forest whose trees are the ends that are linked, each at its node; ends of one node are linked
pub record IsForestBy (node : End → ℕ) (nodes : ℕ) (joins : (slot address : ℕ) → Type 0) (slots code_words : ℕ)
    (parents : List ℕ) : Type 0 where
  pub forest : IsForest parents
  pub len : length parents ≡ nodes
  pub joined : (slot address : ℕ) → joins slot address
      → root_of parents (node (Slot slot)) ≡ root_of parents (node (Address address))
  pub linked : (one other : End) → IsEnd slots code_words one → IsEnd slots code_words other
      → root_of parents (node one) ≡ root_of parents (node other) → Linked joins one other
  pub topped : (one : End) → IsEnd slots code_words one
      → IsNodeOfEnd slots code_words node (root_of parents (node one))

-- such a forest where each end has a node of its own
abbrev pub IsForestOf : (joins : (slot address : ℕ) → Type 0) → (slots code_words : ℕ) → (parents : List ℕ) → Type 0
IsForestOf joins slots code_words parents =
    IsForestBy (end_node slots) (slots + code_words) joins slots code_words parents
