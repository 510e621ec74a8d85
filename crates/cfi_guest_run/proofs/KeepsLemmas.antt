-- A pass goes on.
use Rattle.std.proofs.Common.{refl, sym, ap, subst, ◌∙◌}
use mathlib.Core.List.{IsPrefix}
use Rattle.cfi_aux.specs.declared.modules.Module.{Module}
use Rattle.std.specs.Prelude.{ℕ, List}
use Rattle.cfi_loader.specs.Ledger.{Ledger}
use Rattle.cfi_model.specs.Raw.{Raw}
use Rattle.cfi_plan.specs.declared.plan.Plan.{Plan}
use Rattle.cfi_runner.specs.Run.{HasRunOn}
use Rattle.cfi_runner.specs.declared.pause.Pause.{Pause}
use Rattle.cfi_tables.specs.Key.{Key}
use Rattle.cfi_tables.specs.Loads.{IsQuiet}
use Rattle.cfi_tables.specs.Views.{parked}
use Rattle.cfi_tables.specs.declared.view.PassView.{PassView}
use Rattle.cfi_tables.proofs.Prefixes.{prefix_same, prefix_trans}
use Rattle.cfi_guest_run.specs.Serving.{IsPassTold, KeepsPass}

pub keeps_same : (p : PassView) → KeepsPass p p
keeps_same p = record { guest = refl; accesses = prefix_same p.sight.accesses }

pub keeps_trans : (p q n : PassView) → KeepsPass p q → KeepsPass q n → KeepsPass p n
keeps_trans p q n one other = record {
  guest = other.guest ∙ one.guest;
  accesses = prefix_trans p.sight.accesses q.sight.accesses n.sight.accesses one.accesses other.accesses;
}

-- with a note
pub keeps_told : (k : Key) (plan : Plan) (modules : List Module) (l : Ledger) (p q : PassView)
    → IsPassTold k plan modules l p q → KeepsPass p q
keeps_told k plan modules l p q told = record {
  guest = ap (λ (v : PassView). v.guest) told.is;
  accesses = subst (IsPrefix p.sight.accesses) (sym (ap (λ (v : PassView). v.sight.accesses) told.is))
      (prefix_same p.sight.accesses);
}

-- where its guest parks
pub keeps_parked : (p : PassView) → KeepsPass p (parked p)
keeps_parked p = record { guest = refl; accesses = prefix_same p.sight.accesses }

-- with a quiescent point
pub keeps_quiet : (k : Key) (epoch : ℕ) (p q : PassView) → IsQuiet k epoch p q → KeepsPass p q
keeps_quiet k epoch p q quiet = record {
  guest = quiet.load.guest;
  accesses = (_, sym quiet.load.now.accesses);
}

-- with a run
pub keeps_run : (k : Key) (fuel : ℕ) (p q : PassView) (old new : Raw) (pause : Pause)
    → HasRunOn k fuel p q old new pause → KeepsPass p q
keeps_run k fuel p q old new pause run = record {
  guest = run.keeps.guest;
  accesses = (run.taken.accesses, sym run.taken.appended);
}
