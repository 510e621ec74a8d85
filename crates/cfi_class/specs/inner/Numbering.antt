-- Which slots have edges, and the numbers that slots and code words get from the roots of their nodes.
use Rattle.std.specs.Prelude.{◌≡◌, ◌↔◌, ℕ, ◌+◌, ◌<◌, ◌≤◌, Bool, true, false, List, length, slice_index, slice_index_or}
use Rattle.cfi_word.specs.declared.ids.TheConstants.{FIELD_MAX}
use Rattle.cfi_class.specs.inner.Forest.{root_of}
use Rattle.cfi_class.specs.Labels.{IsClass, IsUsed}

-- the slot is marked
abbrev pub IsMarked : (marks : List Bool) → (slot : ℕ) → Type 0
IsMarked marks slot = slice_index_or marks slot false ≡ true

-- marks tell the slots that have edges
pub record MarksUsed (joins : (slot address : ℕ) → Type 0) (slots : ℕ) (marks : List Bool) : Type 0 where
  pub len : length marks ≡ slots
  pub marked : (slot address : ℕ) → joins slot address → IsMarked marks slot
  pub only : (slot : ℕ) → IsMarked marks slot → IsUsed joins slot

-- the numbers of slots: marked ones have one number exactly where they have one root, and a marked slot of each lower
-- number comes before
pub record AreSlotNumbers (parents : List ℕ) (marks : List Bool) (numbers : List ℕ) : Type 0 where
  pub len : length numbers ≡ length marks
  pub idle : (slot : ℕ) → slot < length marks → slice_index_or marks slot false ≡ false
      → slice_index numbers slot ≡ FIELD_MAX
  pub class : (slot : ℕ) → IsMarked marks slot → IsClass (slice_index numbers slot)
  pub same : (one other : ℕ) → IsMarked marks one → IsMarked marks other
      → (slice_index numbers one ≡ slice_index numbers other) ↔ (root_of parents one ≡ root_of parents other)
  pub order : (slot number : ℕ) → IsMarked marks slot → 1 ≤ number → number ≤ slice_index numbers slot
      → (earlier : ℕ) × (earlier ≤ slot) × IsMarked marks earlier × (slice_index numbers earlier ≡ number)

-- the numbers of code words: those of their roots among the slots, and 0 where the root is no slot
pub record AreWordNumbers (parents slot_numbers : List ℕ) (code_words : ℕ) (numbers : List ℕ) : Type 0 where
  pub len : length numbers ≡ code_words
  pub root : (word : ℕ) → word < code_words
      → slice_index numbers word ≡ slice_index slot_numbers (root_of parents (length slot_numbers + word))
