-- What a load makes of what a loader has.
use Rattle.std.specs.Prelude.{◌≡◌, ℕ}
use Rattle.cfi_plan.specs.declared.journal.JournalLine.{JournalLine}
use Rattle.cfi_plan.specs.declared.journal.JournalLine.TheVariants as lines
use Rattle.cfi_plan.specs.declared.journal.Who.{Who}
use Rattle.cfi_modules.specs.declared.fault.JoinFault.{JoinFault}
use Rattle.cfi_modules.specs.declared.fault.JoinFault.TheVariants as joins
use Rattle.cfi_tables.specs.Keeping.{Keeping}
use Rattle.cfi_tables.specs.Key.{Key}
use Rattle.cfi_tables.specs.declared.fault.UpdateFault.{UpdateFault}
use Rattle.cfi_tables.specs.declared.fault.UpdateFault.TheVariants as updates
use Rattle.cfi_ledger.specs.declared.books.Books.{Books}
use Rattle.cfi_loader.specs.declared.fault.LoadFault.{LoadFault}
use Rattle.cfi_loader.specs.declared.fault.LoadFault.TheVariants.{Place, Verify, EpochsSpent, VersionsSpent, Memory}
use Rattle.cfi_loader.specs.declared.loaded.Loaded.{Loaded}
use Rattle.cfi_ledger.specs.Journal.{asked_by}
use Rattle.cfi_loader.specs.Results.{loaded_line, IsLoadFault}
use Rattle.cfi_ledger.specs.Opens.{IsAddressOf}
use Rattle.cfi_ledger.specs.Books.{end_of_books}
use Rattle.cfi_valid.specs.Journal.{live_in}
use Rattle.cfi_loader.specs.inner.Books.{ledger_of, BooksAgree, IsAfter}

-- ---- faults

-- a fault of joining as one of loading
abbrev pub load_fault_of : JoinFault → LoadFault
load_fault_of (joins.Place fault) = Place fault
load_fault_of (joins.Verify fault) = Verify fault
load_fault_of joins.Memory = Memory

-- a fault of an update, and the line that tells of it
abbrev pub load_fault_by : UpdateFault → LoadFault
load_fault_by updates.EpochsSpent = EpochsSpent
load_fault_by (updates.VersionsSpent guest quiet) = VersionsSpent guest quiet

-- the line of a load whose update was refused
abbrev pub update_line : (number : ℕ) → UpdateFault → JournalLine
update_line number updates.EpochsSpent = lines.LoadEpochs number
update_line number (updates.VersionsSpent guest quiet) = lines.LoadVersions number guest quiet

-- ---- what a call leaves

-- the plan and its modules stay
pub record IsSamePlan (old new : Books) : Type 0 where
  pub plan_is : new.plan ≡ old.plan
  pub modules_are : new.modules ≡ old.modules

-- a load that came through
pub record LoadsTo (k : Key) (who : Who) (number : ℕ) (answer : Loaded) (old new : Books) (before after : Keeping)
    : Type 0 where
  pub all : IsAfter k (asked_by who (loaded_line number answer)) old new before after
  pub epoch_is : answer.epoch ≡ new.force.epoch
  pub policy_is : answer.policy ≡ new.force.policy
  pub address_is : IsAddressOf (live_in (end_of_books new)) number answer.address

-- one that was refused
pub record Refuses (k : Key) (who : Who) (number : ℕ) (fault : LoadFault) (old new : Books) (before after : Keeping)
    : Type 0 where
  pub kept : BooksAgree k new after
  pub fault_is : IsLoadFault k who number fault (ledger_of old before) (ledger_of new after)
