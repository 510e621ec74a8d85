-- Loads and retirements that fit, and what may come of one.
use Rattle.std.specs.Prelude.{◌⊎◌, ℕ, ◌+◌, ◌-◌, ◌≤◌, ⊤}
use Rattle.cfi_plan.specs.declared.journal.JournalLine.{JournalLine}
use Rattle.cfi_plan.specs.declared.journal.JournalLine.TheVariants.{LoadOk, LoadAgain, LoadFull, LoadPlace, LoadVerify, LoadVersions, LoadEpochs, LoadRetired, RefreshOk, RefreshVersions, RefreshEpochs, RetireOk, RetireNotLive, RetireInUse, RetireVersions, RetireEpochs}
use Rattle.cfi_valid.specs.Course.{Course}
use Rattle.cfi_valid.specs.Joining.{HasNoFault}
use Rattle.cfi_valid.specs.Journal.{members_of, live_in, IsUnused}
use Rattle.cfi_valid.specs.Retiring.{IsLiveAt}

-- a load fits where its module is live, or is not loaded and has no fault behind those that are and beside the live ones
abbrev pub LoadFits : Course → (number : ℕ) → Type 0
LoadFits c number =
    IsLiveAt c.end.policy (members_of c.end) number
    ⊎ HasNoFault c.plan.code_words c.modules c.end.loaded (live_in c.end) number

-- a retirement fits where its module is live and has no user
abbrev pub RetirementFits : Course → (number : ℕ) → Type 0
RetirementFits c number = IsUnused c.end number

-- the line tells that the module is loaded or retired, or that no version or no epoch is left: a case a line
abbrev pub ComesThrough : JournalLine → Type 0
ComesThrough (LoadOk number epoch policy) = ⊤
ComesThrough (LoadAgain number policy) = ⊤
ComesThrough (LoadFull number) = ⊥
ComesThrough (LoadPlace number fault) = ⊥
ComesThrough (LoadVerify number fault place) = ⊥
ComesThrough (LoadVersions number guest quiet) = ⊤
ComesThrough (LoadEpochs number) = ⊤
ComesThrough (LoadRetired number) = ⊥
ComesThrough (RefreshOk epoch) = ⊥
ComesThrough (RefreshVersions guest quiet) = ⊥
ComesThrough RefreshEpochs = ⊥
ComesThrough (RetireOk number epoch policy) = ⊤
ComesThrough (RetireNotLive number) = ⊥
ComesThrough (RetireInUse number user) = ⊥
ComesThrough (RetireVersions number guest quiet) = ⊤
ComesThrough (RetireEpochs number) = ⊤

-- the line does not tell that no version is left: a case a line
abbrev pub HasVersion : JournalLine → Type 0
HasVersion (LoadOk number epoch policy) = ⊤
HasVersion (LoadAgain number policy) = ⊤
HasVersion (LoadFull number) = ⊤
HasVersion (LoadPlace number fault) = ⊤
HasVersion (LoadVerify number fault place) = ⊤
HasVersion (LoadVersions number guest quiet) = ⊥
HasVersion (LoadEpochs number) = ⊤
HasVersion (LoadRetired number) = ⊤
HasVersion (RefreshOk epoch) = ⊤
HasVersion (RefreshVersions guest quiet) = ⊥
HasVersion RefreshEpochs = ⊤
HasVersion (RetireOk number epoch policy) = ⊤
HasVersion (RetireNotLive number) = ⊤
HasVersion (RetireInUse number user) = ⊤
HasVersion (RetireVersions number guest quiet) = ⊥
HasVersion (RetireEpochs number) = ⊤

-- the updates that were made, and one more, are at most two fewer than there are versions
abbrev pub HasFewUpdates : Course → Type 0
HasFewUpdates c = c.end.epoch + 1 - c.plan.first ≤ c.plan.versions - 2
