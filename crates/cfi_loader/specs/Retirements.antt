-- What a retirement answers, by the line that it adds to the journal.
use Rattle.std.specs.Prelude.{◌≡◌, ℕ, Option, Some, None}
use Rattle.cfi_plan.specs.declared.journal.JournalLine.{JournalLine}
use Rattle.cfi_plan.specs.declared.journal.JournalLine.TheVariants as lines
use Rattle.cfi_plan.specs.declared.journal.Who.TheVariants.{Script}
use Rattle.cfi_ledger.specs.Journal.{asked_by}
use Rattle.cfi_loader.specs.Ledger.{Ledger}
use Rattle.cfi_loader.specs.Told.{HasTold, HasStarved}
use Rattle.cfi_loader.specs.declared.retire.Retired.{Retired}
use Rattle.cfi_loader.specs.declared.retire.RetireFault.{RetireFault}
use Rattle.cfi_loader.specs.declared.retire.RetireFault.TheVariants.{NotLive, InUse, EpochsSpent, VersionsSpent, Memory}
use Rattle.cfi_tables.specs.Key.{Key}

-- the line of a module that is retired
abbrev pub retired_line : (number : ℕ) → Retired → JournalLine
retired_line number answer = lines.RetireOk number answer.epoch answer.policy

-- the answer to a retirement, with its line: the epoch and the policy in force then
pub record HasRetired (k : Key) (number : ℕ) (answer : Retired) (old new : Ledger) : Type 0 where
  pub told : HasTold k (asked_by Script (retired_line number answer)) old new
  pub epoch_is : answer.epoch ≡ new.course.end.epoch
  pub policy_is : answer.policy ≡ new.course.end.policy

-- the line that tells of a fault; want of memory has none
abbrev pub retire_fault_line : (number : ℕ) → RetireFault → Option JournalLine
retire_fault_line number NotLive = Some (lines.RetireNotLive number)
retire_fault_line number (InUse user) = Some (lines.RetireInUse number user)
retire_fault_line number EpochsSpent = Some (lines.RetireEpochs number)
retire_fault_line number (VersionsSpent guest quiet) = Some (lines.RetireVersions number guest quiet)
retire_fault_line number Memory = None

-- a refusal tells its line; none is told of want of memory alone
abbrev pub RefusesRetireBy : Key → RetireFault → Option JournalLine → (old new : Ledger) → Type 0
RefusesRetireBy k fault (Some line) old new = HasTold k (asked_by Script line) old new
RefusesRetireBy k fault None old new = (fault ≡ Memory) × HasStarved old new

-- a retirement was refused for this fault
abbrev pub IsRetireFault : Key → (number : ℕ) → RetireFault → (old new : Ledger) → Type 0
IsRetireFault k number fault old new = RefusesRetireBy k fault (retire_fault_line number fault) old new
