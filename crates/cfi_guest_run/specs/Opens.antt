-- How an open is answered, and what the pass of its guest has seen by then.
use Rattle.std.specs.Prelude.{◌≡◌, ◌⊎◌, ℕ, ◌==◌, nat_le, Bool, true, false, List, [], length, Some}
use Rattle.cfi_aux.specs.declared.modules.Module.{Module}
use Rattle.cfi_loader.specs.Ledger.{Ledger}
use Rattle.cfi_loader.specs.Passes.{heard_from, reply_with}
use Rattle.cfi_loader.specs.Results.{HasLoaded, IsLoadFault}
use Rattle.cfi_loader.specs.declared.fault.LoadFault.{LoadFault}
use Rattle.cfi_loader.specs.declared.loaded.Loaded.{Loaded}
use Rattle.cfi_model.specs.Log.{last_policy, opens}
use Rattle.cfi_model.specs.Raw.{Raw}
use Rattle.cfi_model.specs.Run.{serve_of}
use Rattle.cfi_model.specs.Service.{argument, reply_of, too_many}
use Rattle.cfi_plan.specs.declared.journal.Who.TheVariants.{Guest}
use Rattle.cfi_plan.specs.declared.plan.Plan.{Plan}
use Rattle.cfi_tables.specs.Key.{Key}
use Rattle.cfi_tables.specs.Loads.{IsQuiet}
use Rattle.cfi_tables.specs.Views.{parked}
use Rattle.cfi_tables.specs.declared.view.PassView.{PassView}
use Rattle.cfi_word.specs.declared.limits.TheConstants.{MAX_OPENS}
use Rattle.cfi_word.specs.declared.services.TheConstants.{EXIT, NO_MODULE, TOO_MANY}
use Rattle.cfi_guest_run.specs.Serving.{IsPassTold, cause_by}

-- the load of the guest's module came through, and that is the answer
pub record IsAnsweredBy (k : Key) (guest : ℕ) (before after : Ledger) (r new : Raw) : Type 0 where
  pub loaded : Loaded
  pub has : HasLoaded k (Guest guest) (argument r.base) loaded before after
  pub is : new ≡ serve_of r (reply_with after r.base.log loaded.address)

-- it was refused, and the answer is the cause of its fault, with the policy in force
pub record IsRefusedBy (k : Key) (guest : ℕ) (before after : Ledger) (r new : Raw) : Type 0 where
  pub fault : LoadFault
  pub has : IsLoadFault k (Guest guest) (argument r.base) fault before after
  pub cause : ℕ
  pub why : cause_by fault ≡ Some cause
  pub is : new ≡ serve_of r (reply_of 0 cause after.course.end.policy [])

-- the loader was asked: the pass has seen all that its keeper had seen before the load, which then knew what the guest
-- has published, and all that it had by the answer
pub record HasAskedLoader (k : Key) (plan : Plan) (modules : List Module) (p q : PassView) (r new : Raw) : Type 0 where
  pub before : Ledger
  pub mid : PassView
  pub told : IsPassTold k plan modules before p mid
  pub after : Ledger
  pub then : IsPassTold k plan modules after mid q
  pub answer : IsAnsweredBy k p.guest (heard_from p before) after r new
      ⊎ IsRefusedBy k p.guest (heard_from p before) after r new

-- the loader was not asked: the answer is this cause, with the policy that the guest has logged last
pub record IsUnasked (cause : ℕ) (p q : PassView) (r new : Raw) : Type 0 where
  pub pass : q ≡ p
  pub is : new ≡ serve_of r (reply_of 0 cause (last_policy r.base.log) [])

-- by whether no more opens are logged, and whether the plan lacks the module
abbrev pub OpensBy : (many lacks : Bool) → Key → Plan → List Module → (p q : PassView) → (r new : Raw) → Type 0
OpensBy true lacks k plan modules p q r new = IsUnasked TOO_MANY p q r new
OpensBy false true k plan modules p q r new = IsUnasked NO_MODULE p q r new
OpensBy false false k plan modules p q r new = HasAskedLoader k plan modules p q r new

-- the answer that an open of the guest has had, by the opens it has logged and the modules of the plan
abbrev pub HasOpened : Key → Plan → List Module → (p q : PassView) → (r new : Raw) → Type 0
HasOpened k plan modules p q r new =
    OpensBy (nat_le MAX_OPENS (opens r.base.log)) (nat_le (length plan.modules) (argument r.base)) k plan modules p q r
    new

-- An open: the guest parks, the open is answered, and a quiescent point ends it.
pub record HasServedOpen (k : Key) (plan : Plan) (modules : List Module) (p q : PassView) (r new : Raw) : Type 0 where
  pub mid : PassView
  pub opened : HasOpened k plan modules (parked p) mid r new
  pub epoch : ℕ
  pub quiet : IsQuiet k epoch mid q

-- a guest leaves its service by a quiescent point, but for one that exits, which stays parked
abbrev pub Leaves : (exits : Bool) → Key → (p q : PassView) → Type 0
Leaves true k p q = q ≡ p
Leaves false k p q = (epoch : ℕ) × IsQuiet k epoch p q

-- each other service, which looks at no answer
pub record HasServedElse (k : Key) (number : ℕ) (p q : PassView) (r new : Raw) : Type 0 where
  pub is : new ≡ serve_of r too_many
  pub left : Leaves (number == EXIT) k (parked p) q
