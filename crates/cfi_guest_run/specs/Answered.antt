-- The lines of a journal in a guest's name, and the opens of which the guest's log tells: the same, in order.
use Rattle.std.specs.Prelude.{◌≡◌, ℕ, ◌==◌, Bool, true, false, not, List, [], ◌∷◌, filter, ⊤}
use Rattle.cfi_plan.specs.declared.journal.JournalLine.{JournalLine}
use Rattle.cfi_plan.specs.declared.journal.JournalLine.TheVariants.{LoadOk, LoadAgain, LoadFull, LoadPlace, LoadVerify}
use Rattle.cfi_plan.specs.declared.journal.JournalLine.TheVariants.{LoadVersions, LoadEpochs, LoadRetired}
use Rattle.cfi_plan.specs.declared.journal.JournalLine.TheVariants.{RefreshOk, RefreshVersions, RefreshEpochs}
use Rattle.cfi_plan.specs.declared.journal.JournalLine.TheVariants.{RetireOk, RetireNotLive, RetireInUse}
use Rattle.cfi_plan.specs.declared.journal.JournalLine.TheVariants.{RetireVersions, RetireEpochs}
use Rattle.cfi_slips.specs.declared.view.SlipView.{SlipView}
use Rattle.cfi_tables.specs.declared.view.PassView.{PassView}
use Rattle.cfi_model.specs.Raw.{Raw}
use Rattle.cfi_unit.specs.declared.log.Log.{Log}
use Rattle.cfi_unit.specs.declared.log.Log.TheVariants.{Pick, Open, Cause}
use Rattle.cfi_valid.specs.declared.causes.TheConstants as causes
use Rattle.cfi_word.specs.declared.services.TheConstants.{NO_FUNCTION, NO_MODULE}

-- the line tells that the module is live, under this policy
abbrev pub TellsOpen : (number policy : ℕ) → JournalLine → Type 0
TellsOpen number policy (LoadOk told epoch force) = (told ≡ number) × (force ≡ policy)
TellsOpen number policy (LoadAgain told force) = (told ≡ number) × (force ≡ policy)
TellsOpen number policy (LoadFull told) = ⊥
TellsOpen number policy (LoadPlace told fault) = ⊥
TellsOpen number policy (LoadVerify told fault place) = ⊥
TellsOpen number policy (LoadVersions told guest quiet) = ⊥
TellsOpen number policy (LoadEpochs told) = ⊥
TellsOpen number policy (LoadRetired told) = ⊥
TellsOpen number policy (RefreshOk epoch) = ⊥
TellsOpen number policy (RefreshVersions guest quiet) = ⊥
TellsOpen number policy RefreshEpochs = ⊥
TellsOpen number policy (RetireOk told epoch force) = ⊥
TellsOpen number policy (RetireNotLive told) = ⊥
TellsOpen number policy (RetireInUse told user) = ⊥
TellsOpen number policy (RetireVersions told guest quiet) = ⊥
TellsOpen number policy (RetireEpochs told) = ⊥

-- it tells of the module with the cause of a refusal; one that is live has no function then
abbrev pub TellsCause : (number cause : ℕ) → JournalLine → Type 0
TellsCause number cause (LoadOk told epoch force) = (told ≡ number) × (cause ≡ NO_FUNCTION)
TellsCause number cause (LoadAgain told force) = (told ≡ number) × (cause ≡ NO_FUNCTION)
TellsCause number cause (LoadFull told) = (told ≡ number) × (cause ≡ causes.MODULES_FULL)
TellsCause number cause (LoadPlace told fault) = (told ≡ number) × (cause ≡ causes.NOT_PLACED)
TellsCause number cause (LoadVerify told fault place) = (told ≡ number) × (cause ≡ causes.NOT_VERIFIED)
TellsCause number cause (LoadVersions told guest quiet) = (told ≡ number) × (cause ≡ causes.VERSIONS_SPENT)
TellsCause number cause (LoadEpochs told) = (told ≡ number) × (cause ≡ causes.EPOCHS_SPENT)
TellsCause number cause (LoadRetired told) = (told ≡ number) × (cause ≡ causes.RETIRED)
TellsCause number cause (RefreshOk epoch) = ⊥
TellsCause number cause (RefreshVersions guest quiet) = ⊥
TellsCause number cause RefreshEpochs = ⊥
TellsCause number cause (RetireOk told epoch force) = ⊥
TellsCause number cause (RetireNotLive told) = ⊥
TellsCause number cause (RetireInUse told user) = ⊥
TellsCause number cause (RetireVersions told guest quiet) = ⊥
TellsCause number cause (RetireEpochs told) = ⊥

-- it is the line of the open of which the entry tells
abbrev pub Tells : Log → JournalLine → Type 0
Tells (Pick policy count) line = ⊥
Tells (Open number address policy) line = TellsOpen number policy line
Tells (Cause number cause) line = TellsCause number cause line

-- the entry tells of an open for which the loader was asked: of any but that of a module which the plan lacks
abbrev pub has_asked : Log → Bool
has_asked (Pick policy count) = false
has_asked (Open number address policy) = true
has_asked (Cause number cause) = not (cause == NO_MODULE)

-- a line an entry, in order
abbrev pub AreTold : List Log → List JournalLine → Type 0
AreTold [] [] = ⊤
AreTold [] (line ∷ lines) = ⊥
AreTold (entry ∷ log) [] = ⊥
AreTold (entry ∷ log) (line ∷ lines) = Tells entry line × AreTold log lines

-- the lines are, in order, those of the opens in the log for which the loader was asked, and no others
abbrev pub AreAnswered : (log : List Log) → (lines : List JournalLine) → Type 0
AreAnswered log lines = AreTold (filter has_asked log) lines

-- the slip is that of the pass's guest, and says the lines of the opens that the guest has logged
pub record IsSlipOf (p : PassView) (r : Raw) (slip : SlipView) : Type 0 where
  pub guest : slip.guest ≡ p.guest
  pub answered : AreAnswered r.base.log slip.lines
