-- What the type of a runner keeps: facts of a guest and its pass, and what the guest's slip says.
use Rattle.std.specs.Prelude.{◌≡◌, ℕ, ◌≤◌, false, List, [], ◌∷◌, ◌++◌, None}
use mathlib.Core.List.{IsPrefix}
use Rattle.cfi_aux.specs.declared.modules.Module.{Module}
use Rattle.cfi_loader.specs.Ledger.{Ledger, IsLedger}
use Rattle.cfi_model.specs.Came.{Came, Ended}
use Rattle.cfi_model.specs.Log.{last_policy}
use Rattle.cfi_model.specs.Raw.{Raw}
use Rattle.cfi_model.specs.Service.{Reply}
use Rattle.cfi_model.specs.Closed.{IsStartIn}
use Rattle.cfi_plan.specs.declared.plan.Plan.{Plan}
use Rattle.cfi_runner.specs.Run.{CanRunOn, HasRunOn}
use Rattle.cfi_runner.specs.Seen.{IsSight, SeesMore, policy_seen}
use Rattle.cfi_runner.specs.declared.pause.Pause.TheVariants as pauses
use Rattle.cfi_slips.specs.declared.view.SlipView.{SlipView}
use Rattle.cfi_tables.specs.Keeping.{last_of}
use Rattle.cfi_tables.specs.Key.{Key}
use Rattle.cfi_tables.specs.Views.{admitted}
use Rattle.cfi_tables.specs.declared.view.PassView.{PassView}
use Rattle.cfi_valid.specs.Journal.{members_of}
use Rattle.cfi_guest_part.specs.Part.{IsEndOf, IsWithin}
use Rattle.cfi_guest_part.specs.Ran.{IsOpenedAs}
use Rattle.cfi_guest_run.specs.Answered.{IsSlipOf}
use Rattle.cfi_guest_run.specs.Path.{IsPath}
use Rattle.cfi_guest_run.specs.Settled.{IsSettled, FitsSettled}

-- a guest with the pass that loads for it, and its slip
pub record Ran : Type 0 where
  pub guest : Raw
  pub pass : PassView
  pub slip : SlipView

-- the five facts, by the ledger of which the guest was last told: the guest is where the raw machine is after what its
-- pass has loaded and what its opens were answered; its log fits what its pass has settled; it has logged no policy
-- above the latest one that this has seen in force; its steps are within the fuel; and where it has not stopped and
-- waits for nothing it can run on from a start of an image that was seen
pub record IsRunnerBy (k : Key) (plan : Plan) (modules : List Module) (p : PassView) (r : Raw) (l : Ledger)
    : Type 0 where
  pub sight : IsSight k p.sight
  pub settled : IsSettled k plan modules p.sight l
  pub last : Raw
  pub path : IsPath k l.course p last
  pub ends : IsEndOf last r
  pub log : FitsSettled k p.sight p.guest l r.base.log
  pub logged : last_policy r.base.log ≤ policy_seen k p.sight
  pub within : IsWithin plan.fuel r
  pub ready : r.base.stop ≡ None → r.waits ≡ None → CanRunOn k plan.fuel p r

-- and a guest that runs is not parked
pub record IsRunner (k : Key) (plan : Plan) (modules : List Module) (p : PassView) (r : Raw) : Type 0 where
  pub ledger : Ledger
  pub is : IsRunnerBy k plan modules p r ledger
  pub outside : r.base.stop ≡ None → r.waits ≡ None → p.parked ≡ false

-- and the guest's slip says the lines of its opens
pub record IsRan (k : Key) (plan : Plan) (modules : List Module) (ran : Ran) : Type 0 where
  pub is : IsRunner k plan modules ran.pass ran.guest
  pub slip : IsSlipOf ran.pass ran.guest ran.slip

-- what is kept of a guest whose service has ended straight before, and which is parked yet
pub record HasEnded (k : Key) (plan : Plan) (modules : List Module) (p : PassView) (r : Raw) (l : Ledger)
    : Type 0 where
  pub is : IsRunnerBy k plan modules p r l
  pub front : List Came
  pub reply : Reply
  pub last : is.path.came ≡ front ++ Ended reply ∷ []

-- some ledger has the guest as it ended a service
abbrev pub IsServed : Key → Plan → List Module → PassView → Raw → Type 0
IsServed k plan modules p r = (l : Ledger) × HasEnded k plan modules p r l

-- a guest as it is opened for the plan's guest of the pass's number, at a start of the image in force, with a pass as a
-- loader has admitted it
pub record IsOpening (k : Key) (plan : Plan) (modules : List Module) (p : PassView) (r : Raw) : Type 0 where
  pub ledger : Ledger
  pub is : IsLedger k plan modules ledger
  pub pass : p ≡ admitted k ledger.keeping p.guest
  pub guest : IsOpenedAs plan (members_of ledger.course.end) p.guest r
  pub starts : IsStartIn (last_of ledger.keeping.entries).image r.base.pc

-- inside a service a pass may have parked, and has seen more of the tables, or as much, but has loaded nothing
pub record SeesOn (k : Key) (old new : PassView) : Type 0 where
  pub guest : new.guest ≡ old.guest
  pub sees : SeesMore k old.sight new.sight
  pub refusals : IsPrefix old.sight.refusals new.sight.refusals
  pub accesses : new.sight.accesses ≡ old.sight.accesses

-- the guest waits in the service of this number, as a run over its pass has left it
pub record HasAsked (k : Key) (fuel : ℕ) (p : PassView) (r : Raw) (number : ℕ) : Type 0 where
  pub before : PassView
  pub old : Raw
  pub can : CanRunOn k fuel before old
  pub then : PassView
  pub run : HasRunOn k fuel before then old r (pauses.Service number)
  pub sees : SeesOn k then p
