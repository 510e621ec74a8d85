-- What of a guest's log has to fit the modules, their places and the journal: policies never fall, and each open has
-- its cause.
use Rattle.std.specs.Prelude.{◌≡◌, ℕ, ◌+◌, ◌≤◌, ◌&&◌, ◌==◌, Bool, false, if◌then◌else◌, List, [], ◌∷◌, length, take, drop, slice_get, Some, Contains, count_by, ⊤}
use Rattle.cfi_plan.specs.declared.journal.Entry.{Entry}
use Rattle.cfi_plan.specs.declared.journal.JournalLine.{JournalLine}
use Rattle.cfi_plan.specs.declared.journal.JournalLine.TheVariants.{LoadOk, LoadAgain, LoadFull, LoadPlace, LoadVerify, LoadVersions, LoadEpochs, LoadRetired, RefreshOk, RefreshVersions, RefreshEpochs, RetireOk, RetireNotLive, RetireInUse, RetireVersions, RetireEpochs}
use Rattle.cfi_plan.specs.declared.journal.Who.{Who}
use Rattle.cfi_plan.specs.declared.journal.Who.TheVariants.{Script, Guest}
use Rattle.cfi_modules.specs.declared.numbers.FaultNumbers.TheVariants.{Place, Verify}
use Rattle.cfi_modules.specs.Entry.{IsGlobal, IsFirstOf, HasNoneOf}
use Rattle.cfi_unit.specs.declared.log.Log.{Log}
use Rattle.cfi_unit.specs.declared.log.Log.TheVariants.{Pick, Open, Cause}
use Rattle.cfi_model.specs.Log.{policy_after, last_policy}
use Rattle.cfi_valid.specs.declared.causes.TheConstants as causes
use Rattle.cfi_valid.specs.Course.{Course}
use Rattle.cfi_valid.specs.Joining.{IsFull, HasFault, HasNoFault}
use Rattle.cfi_valid.specs.Journal.{IsOutOfEpochs, members_of, live_in}
use Rattle.cfi_valid.specs.Loaded.{LoadedModule, loaded_by, live_at}
use Rattle.cfi_valid.specs.Retiring.{HasGone}
use Rattle.cfi_word.specs.declared.services.TheConstants as services

-- ---- spans

-- the next policy that is logged, or else the one in force
abbrev pub next_policy : (force : ℕ) → List Log → ℕ
next_policy force [] = force
next_policy force (Pick policy count ∷ later) = policy
next_policy force (Open number address policy ∷ later) = policy
next_policy force (Cause number cause ∷ later) = next_policy force later

-- the policy lies in the span of the entry at a place: from the last one logged before it to the next one after it
pub record IsInSpan (force : ℕ) (log : List Log) (at policy : ℕ) : Type 0 where
  pub least : last_policy (take at log) ≤ policy
  pub most : policy ≤ next_policy force (drop (at + 1) log)

-- something holds of the modules that some policy of the span finds loaded, and of those that are live under it
abbrev pub HoldsInSpan : Course → List Log → (at : ℕ) → ((loaded live : List LoadedModule) → Type 0) → Type 0
HoldsInSpan c log at P =
    (policy : ℕ) × IsInSpan c.end.policy log at policy
    × P (loaded_by policy c.end.loaded) (live_at policy (members_of c.end))

-- ---- a module that is live

-- a module of this number is live, and the address is that of its first Global function
pub record HasFunctionAt (live : List LoadedModule) (number address : ℕ) : Type 0 where
  pub one : LoadedModule
  pub has : Contains live one
  pub is : one.number ≡ number
  pub first : IsFirstOf IsGlobal one.placed address

-- it is live, and has no such function
pub record HasNoFunction (live : List LoadedModule) (number : ℕ) : Type 0 where
  pub one : LoadedModule
  pub has : Contains live one
  pub is : one.number ≡ number
  pub none : HasNoneOf IsGlobal one.placed

-- ---- versions that are spent

-- a line of the journal says so of a guest's load of the module, a case a line; none for which the script asked does
abbrev pub tells_versions : (guest number : ℕ) → Who → JournalLine → Bool
tells_versions guest number Script line = false
tells_versions guest number (Guest asking) (LoadOk asked epoch policy) = false
tells_versions guest number (Guest asking) (LoadAgain asked policy) = false
tells_versions guest number (Guest asking) (LoadFull asked) = false
tells_versions guest number (Guest asking) (LoadPlace asked fault) = false
tells_versions guest number (Guest asking) (LoadVerify asked fault place) = false
tells_versions guest number (Guest asking) (LoadVersions asked late quiet) = asking == guest && asked == number
tells_versions guest number (Guest asking) (LoadEpochs asked) = false
tells_versions guest number (Guest asking) (LoadRetired asked) = false
tells_versions guest number (Guest asking) (RefreshOk epoch) = false
tells_versions guest number (Guest asking) (RefreshVersions late quiet) = false
tells_versions guest number (Guest asking) RefreshEpochs = false
tells_versions guest number (Guest asking) (RetireOk asked epoch policy) = false
tells_versions guest number (Guest asking) (RetireNotLive asked) = false
tells_versions guest number (Guest asking) (RetireInUse asked user) = false
tells_versions guest number (Guest asking) (RetireVersions asked late quiet) = false
tells_versions guest number (Guest asking) (RetireEpochs asked) = false

-- the entry tells that a load in the guest's name came too many versions ahead
abbrev pub is_versions : (guest number : ℕ) → Entry → Bool
is_versions guest number entry = tells_versions guest number entry.who entry.what

-- an entry of a log does
abbrev pub is_too_old : (number : ℕ) → Log → Bool
is_too_old number (Pick policy count) = false
is_too_old number (Open asked address policy) = false
is_too_old number (Cause asked cause) = asked == number && cause == causes.VERSIONS_SPENT

-- ---- causes

-- the causes that a log can tell
pub data Why : Type 0 where
  NoModule : Why
  ModulesFull : Why
  NotPlaced : Why
  NotVerified : Why
  VersionsSpent : Why
  EpochsSpent : Why
  NoFunction : Why
  Retired : Why
  Unlogged : Why

-- the cause of a number
abbrev pub why_of : ℕ → Why
why_of cause =
    if cause == services.NO_MODULE then NoModule else
    (if cause == causes.MODULES_FULL then ModulesFull else
    (if cause == causes.NOT_PLACED then NotPlaced else
    (if cause == causes.NOT_VERIFIED then NotVerified else
    (if cause == causes.VERSIONS_SPENT then VersionsSpent else
    (if cause == causes.EPOCHS_SPENT then EpochsSpent else
    (if cause == services.NO_FUNCTION then NoFunction else
    (if cause == causes.RETIRED then Retired else Unlogged)))))))

-- why an open of a module was refused, by the place of its entry in the log: a case a cause
abbrev pub IsCaused : Course → (guest : ℕ) → List Log → (at number : ℕ) → Why → Type 0
IsCaused c guest log at number NoModule = length c.plan.modules ≤ number
IsCaused c guest log at number ModulesFull = HoldsInSpan c log at (λ loaded live. IsFull c.modules loaded number)
IsCaused c guest log at number NotPlaced = HoldsInSpan c log at (λ loaded live.
    (fault : ℕ) × HasFault c.plan.code_words c.modules loaded live number (Place fault))
IsCaused c guest log at number NotVerified = HoldsInSpan c log at (λ loaded live.
    (fault : ℕ) × (place : ℕ) × HasFault c.plan.code_words c.modules loaded live number (Verify fault place))
IsCaused c guest log at number VersionsSpent =
    count_by (is_too_old number) log ≤ count_by (is_versions guest number) c.journal
IsCaused c guest log at number EpochsSpent =
    IsInSpan c.end.policy log at c.end.policy × IsOutOfEpochs c.end
    × HasNoFault c.plan.code_words c.modules c.end.loaded (live_in c.end) number
IsCaused c guest log at number NoFunction = HoldsInSpan c log at (λ loaded live. HasNoFunction live number)
IsCaused c guest log at number Retired = HoldsInSpan c log at (λ loaded live. HasGone loaded live number)
IsCaused c guest log at number Unlogged = ⊥

-- ---- a log

-- the policies of entries never fall, from this one on
abbrev pub NeverFall : (before : ℕ) → List Log → Type 0
NeverFall before [] = ⊤
NeverFall before (entry ∷ later) = (before ≤ policy_after before entry) × NeverFall (policy_after before entry) later

-- policies never fall, and none is above the one in force; what is open is live under the policy of its entry; and
-- what is not has one of these causes, by the place of its entry
pub record FitsCauses (c : Course) (Caused : (at number cause : ℕ) → Type 0) (log : List Log) : Type 0 where
  pub rises : NeverFall 0 log
  pub most : last_policy log ≤ c.end.policy
  pub opens : (at number address policy : ℕ) → slice_get log at ≡ Some (Open number address policy)
      → HasFunctionAt (live_at policy (members_of c.end)) number address
  pub causes : (at number cause : ℕ) → slice_get log at ≡ Some (Cause number cause) → Caused at number cause

-- a guest's log fits the run
abbrev pub IsLogged : Course → (guest : ℕ) → List Log → Type 0
IsLogged c guest log = FitsCauses c (λ at number cause. IsCaused c guest log at number (why_of cause)) log
