-- Lines of a journal where they stand: what they change, when one that changes nothing is legal, and why one is not
-- taken.
use Rattle.std.specs.Prelude.{List}
use Rattle.cfi_aux.specs.declared.modules.Module.{Module}
use Rattle.cfi_plan.specs.declared.journal.Entry.{Entry}
use Rattle.cfi_plan.specs.declared.journal.JournalLine.{JournalLine}
use Rattle.cfi_plan.specs.declared.journal.JournalLine.TheVariants.{LoadOk, LoadAgain, LoadFull, LoadPlace, LoadVerify, LoadVersions, LoadEpochs, LoadRetired, RefreshOk, RefreshVersions, RefreshEpochs, RetireOk, RetireNotLive, RetireInUse, RetireVersions, RetireEpochs}
use Rattle.cfi_plan.specs.declared.plan.Plan.{Plan}
use Rattle.cfi_modules.specs.declared.numbers.FaultNumbers.TheVariants.{Place, Verify}
use Rattle.cfi_valid.specs.Joining.{IsFull}
use Rattle.cfi_valid.specs.Journal.{JournalState, IsAgain, IsClean, IsFaulty, IsOutOfEpochs, IsTooOld, IsUnused, EntryLeads, LineLeads, live_in, members_of}
use Rattle.cfi_valid.specs.Retiring.{HasGone, HasUser, IsLiveAt}
use Rattle.cfi_judge.specs.declared.entries.Change.{Change}
use Rattle.cfi_judge.specs.declared.entries.Change.TheVariants as changes
use Rattle.cfi_judge.specs.declared.fault.LineFault.{LineFault}
use Rattle.cfi_judge.specs.inner.Faults.{Refutes}

-- what a line changes: a case a line
abbrev pub change_of : JournalLine → Change
change_of (LoadOk number epoch policy) =
    changes.Module (record { number = number; epoch = epoch; policy = policy })
change_of (LoadAgain number policy) = changes.Nothing
change_of (LoadFull number) = changes.Nothing
change_of (LoadPlace number fault) = changes.Nothing
change_of (LoadVerify number fault place) = changes.Nothing
change_of (LoadVersions number guest quiet) = changes.Nothing
change_of (LoadEpochs number) = changes.Nothing
change_of (LoadRetired number) = changes.Nothing
change_of (RefreshOk epoch) = changes.Epoch epoch
change_of (RefreshVersions guest quiet) = changes.Nothing
change_of RefreshEpochs = changes.Nothing
change_of (RetireOk number epoch policy) =
    changes.Retirement (record { number = number; epoch = epoch; policy = policy })
change_of (RetireNotLive number) = changes.Nothing
change_of (RetireInUse number user) = changes.Nothing
change_of (RetireVersions number guest quiet) = changes.Nothing
change_of (RetireEpochs number) = changes.Nothing

-- the line tells of a refusal, or of a module that is loaded already, and is legal: a case a line
abbrev pub IsRefusal : Plan → List Module → JournalState → JournalLine → Type 0
IsRefusal plan modules s (LoadOk number epoch policy) = ⊥
IsRefusal plan modules s (LoadAgain number policy) = IsAgain s number policy
IsRefusal plan modules s (LoadFull number) = IsFull modules s.loaded number
IsRefusal plan modules s (LoadPlace number fault) = IsFaulty plan modules s number (Place fault)
IsRefusal plan modules s (LoadVerify number fault place) = IsFaulty plan modules s number (Verify fault place)
IsRefusal plan modules s (LoadVersions number guest quiet) =
    IsTooOld plan s guest quiet × IsClean plan modules s number
IsRefusal plan modules s (LoadEpochs number) = IsOutOfEpochs s × IsClean plan modules s number
IsRefusal plan modules s (LoadRetired number) = HasGone s.loaded (live_in s) number
IsRefusal plan modules s (RefreshOk epoch) = ⊥
IsRefusal plan modules s (RefreshVersions guest quiet) = IsTooOld plan s guest quiet
IsRefusal plan modules s RefreshEpochs = IsOutOfEpochs s
IsRefusal plan modules s (RetireOk number epoch policy) = ⊥
IsRefusal plan modules s (RetireNotLive number) = ¬ IsLiveAt s.policy (members_of s) number
IsRefusal plan modules s (RetireInUse number user) = HasUser s.policy (members_of s) number user
IsRefusal plan modules s (RetireVersions number guest quiet) = IsTooOld plan s guest quiet × IsUnused s number
IsRefusal plan modules s (RetireEpochs number) = IsOutOfEpochs s × IsUnused s number

-- no state comes of a line
abbrev pub IsLineFault : Plan → List Module → JournalState → JournalLine → LineFault → Type 0
IsLineFault plan modules s line fault = Refutes ((new : JournalState) × LineLeads plan modules s line new) fault

-- no state comes of an entry
abbrev pub IsEntryFault : Plan → List Module → JournalState → Entry → LineFault → Type 0
IsEntryFault plan modules s entry fault = Refutes ((new : JournalState) × EntryLeads plan modules s entry new) fault
