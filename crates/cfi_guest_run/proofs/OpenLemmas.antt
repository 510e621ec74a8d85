-- A runner in an open, by the answers of the loader's calls.
use Rattle.std.proofs.Common.{◌≡◌, ◌≤◌, ◌<◌, ℕ, Some, None, List, [], length, refl, sym, ap, subst, ◌∙◌, arith}
use Rattle.cfi_aux.specs.declared.modules.Module.{Module}
use Rattle.cfi_loader.specs.Ledger.{Ledger, IsLedger}
use Rattle.cfi_loader.specs.Passes.{heard_from, reply_with}
use Rattle.cfi_loader.specs.Results.{HasLoaded, IsLoadFault, loaded_line}
use Rattle.cfi_loader.specs.Told.{MayAskFor}
use Rattle.cfi_loader.specs.declared.fault.LoadFault.{LoadFault}
use Rattle.cfi_loader.specs.declared.loaded.Loaded.{Loaded}
use Rattle.std.proofs.lemmas.List.Elements.{All-nil}
use Rattle.cfi_model.specs.declared.act.Wait.TheVariants as waits
use Rattle.cfi_model.specs.Data.{LiesInData}
use Rattle.rv_guest.specs.Guest.{MayAnswer}
use Rattle.cfi_model.specs.Log.{last_policy, opens}
use Rattle.cfi_model.specs.Raw.{Raw}
use Rattle.cfi_model.specs.Run.{serve_of}
use Rattle.cfi_model.specs.Service.{argument, reply_of}
use Rattle.cfi_plan.specs.declared.journal.Who.TheVariants.{Guest}
use Rattle.cfi_plan.specs.declared.plan.Plan.{Plan}
use Rattle.cfi_tables.specs.Key.{Key}
use Rattle.cfi_tables.specs.Views.{noted}
use Rattle.cfi_tables.specs.declared.view.PassView.{PassView}
use Rattle.cfi_valid.specs.Log.{IsLogged}
use Rattle.cfi_valid.specs.Script.{Load}
use Rattle.cfi_word.specs.declared.limits.TheConstants.{MAX_OPENS}
use Rattle.cfi_word.specs.declared.services.TheConstants.{OPEN}
use Rattle.cfi_guest_run.specs.Runner.{HasAsked, IsRunner, IsRunnerBy, IsServed}
use Rattle.cfi_guest_run.specs.Serving.{IsPassTold, cause_by}
use Rattle.cfi_guest_run.proofs.AnswerLemmas.{given, policy_fits}
use Rattle.cfi_guest_run.proofs.FaultLemmas.{refused_by}
use Rattle.cfi_guest_run.proofs.NoteLemmas.{heard_ledger, logged_now, planned, runner_told}
use Rattle.cfi_guest_run.proofs.SeesLemmas.{asked_on, on_noted}

-- a guest that has asked waits
pub asked_waits : (k : Key) (fuel : ℕ) (p : PassView) (r : Raw) (number : ℕ) → HasAsked k fuel p r number
    → r.waits ≡ Some (waits.Service number)
asked_waits k fuel p r number asked = ap (λ x. x.waits) asked.run.pauses.0 ∙ asked.run.pauses.1

-- and so is a runner's, parked or not
pub asked_runner : (k : Key) (plan : Plan) (modules : List Module) (p : PassView) (r : Raw) (number : ℕ) (l : Ledger)
    → HasAsked k plan.fuel p r number → IsRunnerBy k plan modules p r l → IsRunner k plan modules p r
asked_runner k plan modules p r number l asked is = record {
  ledger = l;
  is = is;
  outside = λ going idle. absurd (none_some (sym idle ∙ asked_waits k plan.fuel p r number asked));
}
  where
    none_some : None ≡ Some (waits.Service number) → ⊥
    none_some e = absurd (cc)

-- what is known of a guest in an open that was told of a ledger, which knows then what it has published
pub record IsToldOf (k : Key) (plan : Plan) (modules : List Module) (n : PassView) (r : Raw) (l : Ledger) : Type 0 where
  pub at : IsRunnerBy k plan modules n r l
  pub asked : HasAsked k plan.fuel n r OPEN
  pub logged : IsLogged l.course n.guest r.base.log
  pub planned : n.guest < length plan.guests

pub told_of : (k : Key) (plan : Plan) (modules : List Module) (p n : PassView) (r : Raw) (l : Ledger)
    → IsRunner k plan modules p r → HasAsked k plan.fuel p r OPEN → IsPassTold k plan modules l p n
    → IsToldOf k plan modules n r (heard_from p l)
told_of k plan modules p n r l was asked told =
    let m : Ledger = heard_from p l in
    let is : IsLedger k plan modules m = heard_ledger k plan modules p l told.ledger in
    let note : IsPassTold k plan modules m p (noted k m.keeping p) = record {
      ledger = is;
      agrees = told.agrees;
      is = refl;
    } in
    let seen = asked.sees.sees.is in
    subst (λ v. IsToldOf k plan modules v r m) (sym told.is) (record {
      at = runner_told k plan modules p r was.ledger m was.is seen is note;
      asked = asked_on k plan.fuel p (noted k m.keeping p) r OPEN
          (on_noted k m.keeping p is.told.tables told.agrees seen) asked;
      logged = logged_now k plan modules p r was.ledger m was.is seen is note;
      planned = planned k plan modules p r was.ledger m was.is seen is note;
    })

module _ (k : Key) (plan : Plan) (modules : List Module) (p n : PassView) (r : Raw) (first l : Ledger)
    (of : IsToldOf k plan modules p r first) (few : opens r.base.log < MAX_OPENS)
    (told : IsPassTold k plan modules l p n) where
  note : IsPassTold k plan modules l p (noted k l.keeping p)
  note = record { ledger = told.ledger; agrees = told.agrees; is = refl }

  -- its module is loaded
  pub opens_loaded : (loaded : Loaded) → HasLoaded k (Guest p.guest) (argument r.base) loaded first l → (new : Raw)
      → new ≡ serve_of r (reply_with l r.base.log loaded.address) → IsServed k plan modules n new
  opens_loaded loaded has new is =
      subst (λ (z : PassView × Raw). IsServed k plan modules z.0 z.1) (λ i. (sym told.is i, sym is i))
      (given k plan modules p r first of.at of.asked few of.logged (loaded_line (argument r.base) loaded) l has.told
      told.ledger note loaded.address has.address_is)

  -- no policy that it has logged is above the one in force
  pub rises : last_policy r.base.log ≤ l.course.end.policy
  rises = (logged_now k plan modules p r first l of.at of.asked.sees.sees.is told.ledger note).most

  -- or it is refused
  pub opens_refused : (fault : LoadFault) (cause policy : ℕ) → cause_by fault ≡ Some cause
      → IsLoadFault k (Guest p.guest) (argument r.base) fault first l → policy ≡ l.course.end.policy → (new : Raw)
      → new ≡ serve_of r (reply_of 0 cause policy []) → IsServed k plan modules n new
  opens_refused fault cause policy why has force new is =
      subst (λ (z : PassView × Raw). IsServed k plan modules z.0 z.1)
      (λ i. (sym told.is i, sym (is ∙ ap (λ m. serve_of r (reply_of 0 cause m [])) force) i))
      (refused_by k plan modules p r first of.at of.asked few of.logged l told.ledger note fault cause why has)

  -- a refusal may be answered
  pub may_refuse : (cause policy : ℕ) → policy ≡ l.course.end.policy → MayAnswer (reply_of 0 cause policy []) r
  may_refuse cause policy force = record {
    waiting = asked_waits k plan.fuel p r OPEN of.asked;
    inside = All-nil LiesInData;
    few = λ other. few;
    rises = omega (arith, force, rises);
    most = omega (arith, force, policy_fits k plan modules l told.ledger);
  }

-- what the loader answers is of the ledger as its note left it, and in the name of the pass's guest
pub loaded_as : (k : Key) (desk l first : Ledger) (guest : ℕ) (p : PassView) (r : Raw) (loaded : Loaded)
    → desk ≡ first → guest ≡ p.guest → HasLoaded k (Guest guest) (argument r.base) loaded desk l
    → HasLoaded k (Guest p.guest) (argument r.base) loaded first l
loaded_as k desk l first guest p r loaded desk_is same has =
    subst (λ (z : ℕ × Ledger). HasLoaded k (Guest z.0) (argument r.base) loaded z.1 l)
    (λ i. (same i, desk_is i)) has

pub refused_as : (k : Key) (desk l first : Ledger) (guest : ℕ) (p : PassView) (r : Raw) (fault : LoadFault)
    → desk ≡ first → guest ≡ p.guest → IsLoadFault k (Guest guest) (argument r.base) fault desk l
    → IsLoadFault k (Guest p.guest) (argument r.base) fault first l
refused_as k desk l first guest p r fault desk_is same has =
    subst (λ (z : ℕ × Ledger). IsLoadFault k (Guest z.0) (argument r.base) fault z.1 l)
    (λ i. (same i, desk_is i)) has

-- the guest may ask
pub may_load : (k : Key) (plan : Plan) (modules : List Module) (n : PassView) (r : Raw) (desk first : Ledger)
    → IsToldOf k plan modules n r first → desk ≡ first → (guest : ℕ) → guest ≡ n.guest
    → MayAskFor desk (Guest guest) (Load (argument r.base))
may_load k plan modules n r desk first of desk_is guest same =
    let planned : n.guest < length first.course.plan.guests =
    subst (λ (a : Plan). n.guest < length a.guests) (sym of.at.settled.ledger.plan_is) of.planned in
    subst (λ (z : ℕ × Ledger). z.0 < length z.1.course.plan.guests) (λ i. (sym same i, sym desk_is i)) planned
