-- What a retirement makes of what a loader has.
use Rattle.std.specs.Prelude.{◌≡◌, ℕ}
use Rattle.cfi_plan.specs.declared.journal.JournalLine.{JournalLine}
use Rattle.cfi_plan.specs.declared.journal.JournalLine.TheVariants as lines
use Rattle.cfi_plan.specs.declared.journal.Who.TheVariants.{Script}
use Rattle.cfi_ledger.specs.Journal.{asked_by}
use Rattle.cfi_ledger.specs.declared.books.Books.{Books}
use Rattle.cfi_loader.specs.Retirements.{IsRetireFault, retired_line}
use Rattle.cfi_loader.specs.declared.retire.Retired.{Retired}
use Rattle.cfi_loader.specs.declared.retire.RetireFault.{RetireFault}
use Rattle.cfi_loader.specs.declared.retire.RetireFault.TheVariants.{EpochsSpent, VersionsSpent}
use Rattle.cfi_loader.specs.inner.Books.{ledger_of, BooksAgree, IsAfter}
use Rattle.cfi_tables.specs.Keeping.{Keeping}
use Rattle.cfi_tables.specs.Key.{Key}
use Rattle.cfi_tables.specs.declared.fault.UpdateFault.{UpdateFault}
use Rattle.cfi_tables.specs.declared.fault.UpdateFault.TheVariants as updates

-- a fault of an update as one of a retirement
abbrev pub retire_fault_by : UpdateFault → RetireFault
retire_fault_by updates.EpochsSpent = EpochsSpent
retire_fault_by (updates.VersionsSpent guest quiet) = VersionsSpent guest quiet

-- the line of a retirement whose update was refused
abbrev pub refused_retirement : (number : ℕ) → UpdateFault → JournalLine
refused_retirement number updates.EpochsSpent = lines.RetireEpochs number
refused_retirement number (updates.VersionsSpent guest quiet) = lines.RetireVersions number guest quiet

-- a retirement that came through
pub record RetiresTo (k : Key) (number : ℕ) (answer : Retired) (old new : Books) (before after : Keeping) : Type 0 where
  pub all : IsAfter k (asked_by Script (retired_line number answer)) old new before after
  pub epoch_is : answer.epoch ≡ new.force.epoch
  pub policy_is : answer.policy ≡ new.force.policy

-- one that was refused
pub record RefusesRetirement (k : Key) (number : ℕ) (fault : RetireFault) (old new : Books) (before after : Keeping)
    : Type 0 where
  pub kept : BooksAgree k new after
  pub fault_is : IsRetireFault k number fault (ledger_of old before) (ledger_of new after)
