-- Which slot a check names, and which record it has: the check of a number has the branch of that number.
use Rattle.std.specs.Prelude.{◌≡◌, ℕ, ◌+◌, ◌*◌, Bool, true, false, IsTrue, List, slice_get, Option, Some, None, ⊤}
use Rattle.cfi_type_table.specs.Node.{Node}
use Rattle.cfi_type_table.specs.Kind.{is_callable}
use Rattle.cfi_aux.specs.declared.placed.Placed.{Placed}
use Rattle.cfi_aux.specs.declared.records.Kind.{Kind}
use Rattle.cfi_aux.specs.declared.records.Kind.TheVariants.{Call, Tail, Return, Switch, Import}
use Rattle.cfi_unit.specs.declared.spot.Spot.{Spot}
use Rattle.cfi_verify.specs.declared.checks.CheckSpot.{CheckSpot}
use Rattle.cfi_verify.specs.Target.{IsAtHome}
use Rattle.cfi_aux.specs.Records.{AllEntries, AllEntriesIn}

-- the check names the slot of its number
abbrev pub NamesSlot : Placed → (number : ℕ) → CheckSpot → Type 0
NamesSlot m number check = check.slot ≡ m.slot_base + number

-- a check that links is a call, and no other is; the type of a call and of a tail call is one of functions
abbrev pub IsKindOf : (types : List Node) → (link : Bool) → Kind → Type 0
IsKindOf types true (Call node) = IsTrue (is_callable types node)
IsKindOf types true kind = ⊥
IsKindOf types false (Call node) = ⊥
IsKindOf types false (Tail node) = IsTrue (is_callable types node)
IsKindOf types false Return = ⊤
IsKindOf types false (Switch entries) = ⊤
IsKindOf types false (Import name cell) = ⊤

-- there is a record, and it fits
abbrev pub IsRecordOf : (types : List Node) → (link : Bool) → Option Kind → Type 0
IsRecordOf types link None = ⊥
IsRecordOf types link (Some kind) = IsKindOf types link kind

-- the check has a branch record that fits
abbrev pub KindFits : Placed → (number : ℕ) → CheckSpot → Type 0
KindFits m number check = IsRecordOf m.types check.link (slice_get m.branches number)

-- an offset in bytes from the module's start is that of a unit in the same function as the word `at`
abbrev pub IsEntry : Placed → List Spot → (at : ℕ) → (offset : ℕ) → Type 0
IsEntry m spots at offset = (to : ℕ) × (offset ≡ 4 * to) × IsAtHome m.functions spots at to

-- each entry of a switch is a unit in the function of its check
abbrev pub AreEntries : Placed → List Spot → (at : ℕ) → Kind → Type 0
AreEntries m spots at kind = AllEntries (IsEntry m spots at) kind

-- where there is a record
abbrev pub AreEntriesIn : Placed → List Spot → (at : ℕ) → Option Kind → Type 0
AreEntriesIn m spots at kind = AllEntriesIn (IsEntry m spots at) kind

-- the entries of a check's record, where it is a switch, lie in its function
abbrev pub EntriesFit : Placed → List Spot → (number : ℕ) → CheckSpot → Type 0
EntriesFit m spots number check = AreEntriesIn m spots check.at (slice_get m.branches number)
