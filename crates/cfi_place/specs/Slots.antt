-- The slots that checks name. Units are read from a module's first word on until none begins; places are word numbers.
use Rattle.std.specs.Prelude.{◌≡◌, ℕ, ◌+◌, List, [], ◌∷◌, ◌++◌, slice_set}
use Rattle.rv_insn.specs.Insn.{word_of}
use Rattle.cfi_unit.specs.declared.unit.Unit.{Unit as CodeUnit}
use Rattle.cfi_unit.specs.declared.unit.Unit.TheVariants as units
use Rattle.cfi_unit.specs.Unit.{size_of, high_insn, low_insn}
use Rattle.cfi_unit.specs.Code.{BeginsAt}

-- the words from `at` on are read as these units, and no unit begins after them
abbrev pub ReadFrom : (words : List ℕ) → (at : ℕ) → List CodeUnit → Type 0
ReadFrom words at [] = (unit : CodeUnit) → BeginsAt words at unit → ⊥
ReadFrom words at (unit ∷ rest) = BeginsAt words at unit × ReadFrom words (at + size_of unit) rest

-- the places of the checks among units that are read from `at` on
abbrev pub check_at : (at : ℕ) → CodeUnit → List ℕ
check_at at (units.Check link rs1 imm slot) = at ∷ []
check_at at unit = []

-- the words of the checks among units that begin at a word
abbrev pub checks_from : (at : ℕ) → List CodeUnit → List ℕ
checks_from at [] = []
checks_from at (unit ∷ rest) = check_at at unit ++ checks_from (at + size_of unit) rest

-- a check at a place names a slot in its fourth and fifth words
abbrev pub with_slot : (at slot : ℕ) → List ℕ → List ℕ
with_slot at slot words =
    slice_set (slice_set words (at + 3) (word_of (high_insn slot))) (at + 4) (word_of (low_insn slot))

-- checks at these places name the slots from `slot` on, one after the other
abbrev pub with_slots : (slot : ℕ) → (places words : List ℕ) → List ℕ
with_slots slot [] words = words
with_slots slot (at ∷ places) words = with_slots (slot + 1) places (with_slot at slot words)

-- the checks of the code `source` name the slots from `slot` on in `new`, which is `old` else
abbrev pub HasSlots : (source : List ℕ) → (slot : ℕ) → (old new : List ℕ) → Type 0
HasSlots source slot old new =
    (code : List CodeUnit) × ReadFrom source 0 code × (new ≡ with_slots slot (checks_from 0 code) old)
