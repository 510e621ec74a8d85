-- Nodes of a forest that begins with classes that are there: first one for each number, then the slots and code words.
use Rattle.std.specs.Prelude.{ℕ, ◌+◌, ◌/◌, ◌==◌, List, ◌++◌, length, slice_index, nat_lt, if◌then◌else◌, All}
use Rattle.cfi_word.specs.declared.ids.TheConstants.{FIELD_MAX}
use Rattle.cfi_class.specs.declared.nodes.TheConstants.{CLASSES}
use Rattle.cfi_word.specs.declared.lists.Edge.{Edge}
use Rattle.cfi_class.specs.Labels.{HasEdge, IsEdgeWithin, AreNumbers}
use Rattle.cfi_class.specs.inner.Linked.{End, IsForestBy}
use Rattle.cfi_class.specs.inner.Linked.End.{Slot, Address}

-- the node of a slot: its class number, and one of its own where it has none
abbrev pub slot_node : (bary : List ℕ) → (slot : ℕ) → ℕ
slot_node bary slot = if nat_lt (slice_index bary slot) FIELD_MAX then slice_index bary slot else CLASSES + slot

-- the node of a code word, behind those of so many slots
abbrev pub word_node : (tary : List ℕ) → (slots word : ℕ) → ℕ
word_node tary slots word = if slice_index tary word == 0 then CLASSES + slots + word else slice_index tary word

-- the node of an end
abbrev pub kept_node : (tary bary : List ℕ) → End → ℕ
kept_node tary bary (Slot slot) = slot_node bary slot
kept_node tary bary (Address address) = word_node tary (length bary) (address / 4)

-- how many nodes there are
abbrev pub node_count : (tary bary : List ℕ) → ℕ
node_count tary bary = CLASSES + length bary + length tary

-- edges that these are the numbers of, all within
pub record HaveNumbers (tary bary : List ℕ) (edges : List Edge) : Type 0 where
  pub within : All (IsEdgeWithin (length bary) (length tary)) edges
  pub numbers : AreNumbers (HasEdge edges) (length bary) (length tary) tary bary

-- the forest of the classes of edges and of further edges, whatever the edges that have the numbers are
abbrev pub IsKeptForest : (tary bary : List ℕ) → (fresh : List Edge) → (parents : List ℕ) → Type 0
IsKeptForest tary bary fresh parents = (edges : List Edge) → HaveNumbers tary bary edges
    → IsForestBy (kept_node tary bary) (node_count tary bary) (HasEdge (edges ++ fresh)) (length bary) (length tary)
    parents
