-- How an open is answered.
use Rattle.std.proofs.Common.{◌≡◌, ℕ, Some, List, [], ap, subst, ◌∙◌, inl, inr}
use Rattle.std.specs.Prelude.{OnOk, Result, Ok, Err}
use Rattle.cfi_aux.specs.declared.modules.Module.{Module}
use Rattle.cfi_loader.specs.Ledger.{Ledger}
use Rattle.cfi_loader.specs.Passes.{heard_from, reply_with}
use Rattle.cfi_loader.specs.Results.{HasLoaded, IsLoadFault}
use Rattle.cfi_loader.specs.declared.fault.LoadFault.{LoadFault}
use Rattle.cfi_loader.specs.declared.loaded.Loaded.{Loaded}
use Rattle.cfi_model.specs.Raw.{Raw}
use Rattle.cfi_model.specs.Run.{serve_of}
use Rattle.cfi_model.specs.Service.{argument, reply_of}
use Rattle.cfi_plan.specs.declared.journal.Who.TheVariants.{Guest}
use Rattle.cfi_plan.specs.declared.plan.Plan.{Plan}
use Rattle.cfi_tables.specs.Key.{Key}
use Rattle.cfi_tables.specs.declared.view.PassView.{PassView}
use Rattle.cfi_guest_run.specs.Opens.{HasAskedLoader}
use Rattle.cfi_guest_run.specs.Serving.{IsPassTold, cause_by}

-- a load that came through, of the guest that was told before it
pub asked_loaded : (k : Key) (plan : Plan) (modules : List Module) (p mid q : PassView) (r new : Raw)
    (before after : Ledger) → IsPassTold k plan modules before p mid → IsPassTold k plan modules after mid q
    → (loaded : Loaded) → HasLoaded k (Guest mid.guest) (argument r.base) loaded (heard_from p before) after
    → new ≡ serve_of r (reply_with after r.base.log loaded.address) → HasAskedLoader k plan modules p q r new
asked_loaded k plan modules p mid q r new before after told then loaded has is = record {
  before = before;
  mid = mid;
  told = told;
  after = after;
  then = then;
  answer = inl (record {
    loaded = loaded;
    has = subst (λ (n : ℕ). HasLoaded k (Guest n) (argument r.base) loaded (heard_from p before) after)
        (ap (λ (v : PassView). v.guest) told.is) has;
    is = is;
  });
}

-- or a refused one
pub asked_refused : (k : Key) (plan : Plan) (modules : List Module) (p mid q : PassView) (r new : Raw)
    (before after : Ledger) → IsPassTold k plan modules before p mid → IsPassTold k plan modules after mid q
    → (fault : LoadFault) (cause policy : ℕ) → cause_by fault ≡ Some cause
    → IsLoadFault k (Guest mid.guest) (argument r.base) fault (heard_from p before) after
    → policy ≡ after.course.end.policy
    → new ≡ serve_of r (reply_of 0 cause policy []) → HasAskedLoader k plan modules p q r new
asked_refused k plan modules p mid q r new before after told then fault cause policy why has force is = record {
  before = before;
  mid = mid;
  told = told;
  after = after;
  then = then;
  answer = inr (record {
    fault = fault;
    has = subst (λ (n : ℕ). IsLoadFault k (Guest n) (argument r.base) fault (heard_from p before) after)
        (ap (λ (v : PassView). v.guest) told.is) has;
    cause = cause;
    why = why;
    is = is ∙ ap (λ (n : ℕ). serve_of r (reply_of 0 cause n [])) force;
  });
}

-- what follows where a call succeeds
pub on_ok : {X E P Q : Type 0} (r : Result X E) → (P → Q) → OnOk r P → OnOk r Q
on_ok (Ok x) follows p = follows p
on_ok (Err e) follows p = tt
