-- Labels that are kept while edges are added: classes that had numbers keep one, and new ones take the least one left.
use Rattle.std.specs.Prelude.{◌≡◌, ◌⊎◌, ℕ, ◌*◌, ◌<◌, ◌≤◌, List, length, slice_index, ◌++◌, All, Contains}
use Rattle.cfi_word.specs.declared.lists.Edge.{Edge}
use Rattle.cfi_word.specs.declared.lists.Labels.{Labels}
use Rattle.cfi_word.specs.Chain.{Chain}
use Rattle.cfi_word.specs.Table.{slots_of}
use Rattle.cfi_class.specs.Labels.{HasEdge, IsEdgeWithin, IsUsed, IsClass, AreLabels}

-- the labels of the edges of a list, all of which the table with the labels' number of code words has room for
pub record AreLabelsOf (edges : List Edge) (labels : Labels) : Type 0 where
  pub within : All (IsEdgeWithin (slots_of (length labels.tary)) (length labels.tary)) edges
  pub each : AreLabels (HasEdge edges) (length labels.tary) labels.tary labels.bary

-- the labels of some list of edges, for so many code words
pub record IsKept (code_words : ℕ) (labels : Labels) : Type 0 where
  pub len : length labels.tary ≡ code_words
  pub edges : List Edge
  pub are : AreLabelsOf edges labels

-- a class number that some code word or slot has
abbrev pub IsInUse : (labels : Labels) → (number : ℕ) → Type 0
IsInUse labels number = IsClass number × (Contains labels.tary number ⊎ Contains labels.bary number)

-- two slots are of one class: chains join both with one address
abbrev pub ShareClass : (joins : (slot address : ℕ) → Type 0) → (one other : ℕ) → Type 0
ShareClass joins one other = (address : ℕ) × Chain joins one address × Chain joins other address

-- a code word or a slot of the slot's class has the class number in the labels
abbrev pub HasNumberIn : (joins : (slot address : ℕ) → Type 0) → (labels : Labels) → (slot number : ℕ) → Type 0
HasNumberIn joins labels slot number = IsClass number
    × (((word : ℕ) × Chain joins slot (4 * word) × (slice_index labels.tary word ≡ number))
    ⊎ ((other : ℕ) × ShareClass joins slot other × (slice_index labels.bary other ≡ number)))

-- the slot is the least one of a class of which nothing has a class number in the labels
pub record IsFirstOfNew (joins : (slot address : ℕ) → Type 0) (labels : Labels) (slot : ℕ) : Type 0 where
  pub used : IsUsed joins slot
  pub new : (number : ℕ) → HasNumberIn joins labels slot number → ⊥
  pub first : (earlier : ℕ) → earlier < slot → ShareClass joins slot earlier → ⊥

-- a number that is left for a new class when it is the turn of its least slot: not in use before, nor an earlier slot's
pub record IsLeft (old new : Labels) (slot number : ℕ) : Type 0 where
  pub least : 1 ≤ number
  pub unused : IsInUse old number → ⊥
  pub untaken : (earlier : ℕ) → earlier < slot → slice_index new.bary earlier ≡ number → ⊥

-- the least number of which it holds
pub record IsLeastOf (Holds : (number : ℕ) → Type 0) (number : ℕ) : Type 0 where
  pub holds : Holds number
  pub least : (other : ℕ) → Holds other → number ≤ other

-- labels of the edges of a list, with old numbers: a class of which something had a number has the least of these, and
-- the new classes, in the order of their least slots, have the least number each that is left
pub record AreKept (edges : List Edge) (old new : Labels) : Type 0 where
  pub size : length new.tary ≡ length old.tary
  pub labels : AreLabelsOf edges new
  pub kept : (slot number : ℕ) → HasNumberIn (HasEdge edges) old slot number
      → IsLeastOf (HasNumberIn (HasEdge edges) old slot) (slice_index new.bary slot)
  pub fresh : (slot : ℕ) → IsFirstOfNew (HasEdge edges) old slot
      → IsLeastOf (IsLeft old new slot) (slice_index new.bary slot)

-- the labels after more edges, whatever the edges before were
abbrev pub AreExtended : (old : Labels) → (fresh : List Edge) → (new : Labels) → Type 0
AreExtended old fresh new = (edges : List Edge) → AreLabelsOf edges old → AreKept (edges ++ fresh) old new
