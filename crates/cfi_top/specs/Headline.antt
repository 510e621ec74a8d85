-- What is promised of each guest: it does, unit by unit, what the policy machine does; every indirect jump goes where
-- the policy in force allows; it halts only where that policy forbids the edge; it never enters a unit's middle, and
-- never stores outside its own data.
use Rattle.std.specs.Prelude.{◌≡◌, ℕ, true, List, [], ◌∷◌, length, None, Some}
use Rattle.cfi_unit.specs.declared.fill.Fill.{Fill}
use Rattle.cfi_unit.specs.declared.log.Stop.TheVariants.{Halt}
use Rattle.cfi_model.specs.Effect.{is_in_code}
use Rattle.cfi_model.specs.Came.{takes_in}
use Rattle.cfi_model.specs.Fits.{Along}
use Rattle.cfi_model.specs.History.{History, IsHistory, IsStart}
use Rattle.cfi_model.specs.Raw.{Raw, raw_opened}
use Rattle.cfi_model.specs.Run.{Take, run_of}
use Rattle.cfi_model.specs.Shows.{End, IsStep, Shows, ends_along}
use Rattle.cfi_model.specs.State.{State}
use Rattle.cfi_model.specs.Words.{Tables}
use Rattle.cfi_model_law.specs.Moments.{IsConfined}
use Rattle.cfi_guest_part.specs.Ran.{IsHistoryOf, IsRunOf}
use Rattle.cfi_report.specs.declared.report.GuestPart.{GuestPart}
use Rattle.cfi_valid.specs.Course.{Course}
use Rattle.cfi_valid.specs.FromLaw.{HasPolicies}
use Rattle.cfi_valid.specs.Journal.{members_of}
use Rattle.cfi_valid.specs.Loaded.{Members}
use Rattle.cfi_top.specs.Edges.{IsChecked, IsAllowedEdge, IsForbiddenEdge}

-- a check has stopped the machine before a target that is no word of the code, or to which its policy forbids the edge
pub record IsHalted (h : History) (code : List ℕ) (members : Members) (end : End) (s : State) (target : ℕ)
    : Type 0 where
  pub slot : ℕ
  pub checked : IsChecked code s slot target
  pub forbids : is_in_code target ≡ true → IsForbiddenEdge h members end slot target

-- a unit of the policy machine: one that is a check and goes on goes along an allowed edge, and only a check before a
-- forbidden one halts
pub record KeepsPolicy (h : History) (code : List ℕ) (members : Members) (end : End) (old new : State)
    : Type 0 where
  pub step : IsStep h code end old new
  pub goes : (slot target : ℕ) → IsChecked code old slot target → new.stop ≡ None
      → IsAllowedEdge h members end slot target old new
  pub halts : (target : ℕ) → new.stop ≡ Some (Halt target) → IsHalted h code members end old target

-- unit by unit
abbrev pub KeepPolicies : History → (code : List ℕ) → Members → List End → (old new : State) → Type 0
KeepPolicies h code members [] old new = new ≡ old
KeepPolicies h code members (end ∷ ends) old new =
    (mid : State) × KeepsPolicy h code members end old mid × KeepPolicies h code members ends mid new

-- the guest that began so, to which these words and answers came
pub record KeepsHeadline (h : History) (code : List ℕ) (members : Members) (start : Raw) (takes : List Take)
    : Type 0 where
  pub repeats : ℕ
  pub state : State
  pub keeps : KeepPolicies h code members (ends_along start takes) start.base state
  pub shows : Shows h code repeats state (run_of start takes)
  pub confined : IsConfined h code start takes

-- it holds of each guest that is opened at a start, whatever words of the history and answers come to it, where the
-- image of each epoch has the code of the modules that its policy finds loaded, and the labels of those that are live
abbrev pub GuestsKeepTheHeadline : Type 0
GuestsKeepTheHeadline =
    (h : History) (code : List ℕ) (members : Members) → IsHistory h code → HasPolicies (length code) members h →
    (number entry : ℕ) (fills : List Fill) → IsStart h entry →
    (takes : List Take) → Along h code (raw_opened number entry fills) takes →
    KeepsHeadline h code members (raw_opened number entry fills) takes

-- so it holds of each guest of which a part of a report tells
abbrev pub RunsKeepTheHeadline : Type 0
RunsKeepTheHeadline =
    (c : Course) (t : Tables) (h : History) (code : List ℕ) → IsHistoryOf c t h code → (number : ℕ) (part : GuestPart) →
    (ran : IsRunOf c t h code number part) →
    KeepsHeadline h code (members_of c.end) ran.run.start (takes_in ran.run.came)
