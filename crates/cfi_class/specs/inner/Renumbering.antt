-- The numbers that slots and code words get from the roots of their nodes, where the first nodes are class numbers.
use Rattle.std.specs.Prelude.{◌≡◌, ◌⊎◌, ℕ, ◌+◌, ◌-◌, ◌<◌, ◌≤◌, Bool, false, List, length, slice_index, slice_index_or, nat_lt, if◌then◌else◌}
use Rattle.cfi_word.specs.declared.ids.TheConstants.{FIELD_MAX}
use Rattle.cfi_class.specs.declared.nodes.TheConstants.{CLASSES}
use Rattle.cfi_class.specs.inner.Forest.{root_of}
use Rattle.cfi_class.specs.inner.Nodes.{slot_node, word_node}
use Rattle.cfi_class.specs.inner.Numbering.{IsMarked}

-- the number that a root stands for: itself, the number of the slot whose node it is, or 0 where it is a code word's
abbrev pub number_at : (numbers : List ℕ) → (root : ℕ) → ℕ
number_at numbers root = if nat_lt root CLASSES then root else slice_index numbers (root - CLASSES)

-- the slot has a class number, or a mark
abbrev pub IsLive : (bary : List ℕ) → (used : List Bool) → (slot : ℕ) → Type 0
IsLive bary used slot = (slice_index bary slot < FIELD_MAX) ⊎ IsMarked used slot

-- it has neither
abbrev pub IsIdle : (bary : List ℕ) → (used : List Bool) → (slot : ℕ) → Type 0
IsIdle bary used slot = (FIELD_MAX ≤ slice_index bary slot) × (slice_index_or used slot false ≡ false)

-- the root of a slot's node
abbrev pub slot_root : (parents bary : List ℕ) → (slot : ℕ) → ℕ
slot_root parents bary slot = root_of parents (slot_node bary slot)

-- the slot is a root itself: the first one of a new class
abbrev pub OpensClass : (parents bary : List ℕ) → (used : List Bool) → (slot : ℕ) → Type 0
OpensClass parents bary used slot = IsLive bary used slot × (CLASSES + slot ≤ slot_root parents bary slot)

-- the number is given to a new class before the slot
abbrev pub IsGivenBefore : (parents bary : List ℕ) → (used : List Bool) → (numbers : List ℕ) → (slot number : ℕ)
    → Type 0
IsGivenBefore parents bary used numbers slot number =
    (earlier : ℕ) × (earlier < slot) × OpensClass parents bary used earlier × (slice_index numbers earlier ≡ number)

-- a number for a new class at the slot: each lower one is taken or given before
pub record IsFresh (parents bary : List ℕ) (used taken : List Bool) (numbers : List ℕ) (slot number : ℕ) : Type 0
  where
    pub least : 1 ≤ number
    pub most : number ≤ slot + length bary + 1
    pub free : IsMarked taken number → ⊥
    pub lower : (other : ℕ) → 1 ≤ other → other < number
        → IsMarked taken other ⊎ IsGivenBefore parents bary used numbers slot other

-- the numbers of the first slots
pub record AreRenumbered (parents bary : List ℕ) (used taken : List Bool) (numbers : List ℕ) : Type 0 where
  pub idle : (slot : ℕ) → slot < length numbers → IsIdle bary used slot → slice_index numbers slot ≡ FIELD_MAX
  pub known : (slot : ℕ) → slot < length numbers → IsLive bary used slot
      → slot_root parents bary slot < CLASSES + slot
      → slice_index numbers slot ≡ number_at numbers (slot_root parents bary slot)
  pub fresh : (slot : ℕ) → slot < length numbers → OpensClass parents bary used slot
      → IsFresh parents bary used taken numbers slot (slice_index numbers slot)
  pub rises : (earlier slot : ℕ) → earlier < slot → slot < length numbers → OpensClass parents bary used earlier
      → OpensClass parents bary used slot → slice_index numbers earlier < slice_index numbers slot

-- the numbers of code words
pub record AreWordsRenumbered (parents tary numbers words : List ℕ) : Type 0 where
  pub len : length words ≡ length tary
  pub each : (word : ℕ) → word < length tary
      → slice_index words word ≡ number_at numbers (root_of parents (word_node tary (length numbers) word))
