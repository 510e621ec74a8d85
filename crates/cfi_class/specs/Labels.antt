-- Class numbers of branch slots and code addresses (MCFI, PLDI 2014: the targets that one branch can reach are put into
-- one class, and classes that overlap are one). Addresses are in bytes; a code word has four of them.
use Rattle.std.specs.Prelude.{◌≡◌, ◌↔◌, ◌⊎◌, ℕ, ◌*◌, ◌<◌, ◌≤◌, ◌%◌, List, length, slice_index, All, Contains}
use Rattle.cfi_word.specs.declared.ids.TheConstants.{FIELD_MAX}
use Rattle.cfi_word.specs.declared.lists.Edge.{Edge}
use Rattle.cfi_word.specs.Chain.{Chain}
use Rattle.cfi_word.specs.Table.{slots_of}

-- the edge from the slot to the address stands in the list
abbrev pub HasEdge : (edges : List Edge) → (slot address : ℕ) → Type 0
HasEdge edges slot address = Contains edges (record { branch = slot; target = address })

-- the edge leads from one of so many slots to a code word
pub record IsEdgeWithin (slots code_words : ℕ) (edge : Edge) : Type 0 where
  pub branch : edge.branch < slots
  pub whole : edge.target % 4 ≡ 0
  pub target : edge.target < 4 * code_words

-- edges that can be labelled: those of so many slots, for which the table has room
pub record CanBeLabelled (edges : List Edge) (slots code_words : ℕ) : Type 0 where
  pub room : slots ≤ slots_of code_words
  pub within : All (IsEdgeWithin slots code_words) edges

-- some branch may go to the address
abbrev pub IsReached : (joins : (slot address : ℕ) → Type 0) → (address : ℕ) → Type 0
IsReached joins address = (slot : ℕ) × joins slot address

-- the slot's branch may go somewhere
abbrev pub IsUsed : (joins : (slot address : ℕ) → Type 0) → (slot : ℕ) → Type 0
IsUsed joins slot = (address : ℕ) × joins slot address

-- the number of a class: neither 0 nor the greatest number
pub record IsClass (number : ℕ) : Type 0 where
  pub least : 1 ≤ number
  pub most : number < FIELD_MAX

-- a number is that of a class exactly where something holds, and else the one that says that it does not
abbrev pub IsClassWhere : (Holds : Type 0) → (other number : ℕ) → Type 0
IsClassWhere Holds other number = (Holds × IsClass number) ⊎ ((Holds → ⊥) × (number ≡ other))

-- the labels of a relation between so many slots and code words: which numbers are used is free
pub record AreNumbers (joins : (slot address : ℕ) → Type 0) (count code_words : ℕ) (tary bary : List ℕ) : Type 0 where
  pub words : length tary ≡ code_words
  pub slots : length bary ≡ count
  pub targets : (word : ℕ) → word < code_words → IsClassWhere (IsReached joins (4 * word)) 0 (slice_index tary word)
  pub branches : (slot : ℕ) → slot < count → IsClassWhere (IsUsed joins slot) FIELD_MAX (slice_index bary slot)
  pub classes : (slot word : ℕ) → slot < count → word < code_words → IsUsed joins slot → IsReached joins (4 * word)
      → (slice_index bary slot ≡ slice_index tary word) ↔ Chain joins slot (4 * word)

-- the labels of the slots and code words of a table
abbrev pub AreLabels : (joins : (slot address : ℕ) → Type 0) → (code_words : ℕ) → (tary bary : List ℕ) → Type 0
AreLabels joins code_words tary bary = AreNumbers joins (slots_of code_words) code_words tary bary

-- classes are numbered from 1 in the order of their least slots: a slot of each lower class comes before one of a class
abbrev pub AreOrderedBySlot : (joins : (slot address : ℕ) → Type 0) → (bary : List ℕ) → Type 0
AreOrderedBySlot joins bary = (slot number : ℕ) → IsUsed joins slot → 1 ≤ number → number ≤ slice_index bary slot
    → (earlier : ℕ) × (earlier ≤ slot) × IsUsed joins earlier × (slice_index bary earlier ≡ number)
