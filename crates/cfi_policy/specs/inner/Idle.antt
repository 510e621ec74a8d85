-- Branches that may go nowhere: those whose slot has the number that says that it has no class.
use Rattle.std.specs.Prelude.{◌≡◌, ◌↔◌, ◌⊎◌, ℕ, ◌+◌, ◌<◌, List, slice_index, All}
use Rattle.std.specs.List.{Contains, AllPairs}
use Rattle.cfi_word.specs.declared.ids.TheConstants.{FIELD_MAX}
use Rattle.cfi_aux.specs.declared.placed.Placed.{Placed}
use Rattle.cfi_policy.specs.Group.{IsBranch}

-- the slot is one of so many from the base on, and has no class
abbrev pub IsIdleAmong : (base count : ℕ) → (bary : List ℕ) → (slot : ℕ) → Type 0
IsIdleAmong base count bary slot =
    (number : ℕ) × (number < count) × (slot ≡ base + number) × (slice_index bary slot ≡ FIELD_MAX)

-- the new list has the slots of the old one and those among so many, in order where the old ones come before
pub record AddsIdle (base count : ℕ) (bary old new : List ℕ) : Type 0 where
  pub are : (slot : ℕ) → Contains new slot ↔ (Contains old slot ⊎ IsIdleAmong base count bary slot)
  pub order : All (λ slot. slot < base) old → AllPairs ◌<◌ old → AllPairs ◌<◌ new

-- the slots of all branches of the modules that have no class, in order
pub record AreIdle (ms : List Placed) (bary idle : List ℕ) : Type 0 where
  pub are : (slot : ℕ) → Contains idle slot ↔ (IsBranch ms slot × (slice_index bary slot ≡ FIELD_MAX))
  pub order : AllPairs ◌<◌ idle
