-- A runner after a turn of its guest.
use Rattle.std.proofs.Common.{◌≡◌, ℕ, None, false, List, subst}
use Rattle.cfi_aux.specs.declared.modules.Module.{Module}
use Rattle.cfi_model.specs.Raw.{Raw}
use Rattle.cfi_plan.specs.declared.plan.Plan.{Plan}
use Rattle.cfi_runner.specs.Run.{CanRunOn, HasRunOn}
use Rattle.cfi_runner.specs.declared.pause.Pause.{Pause}
use Rattle.cfi_runner.specs.declared.pause.Pause.TheVariants as pauses
use Rattle.cfi_tables.specs.Key.{Key}
use Rattle.cfi_tables.specs.declared.view.PassView.{PassView}
use Rattle.cfi_guest_run.specs.Runner.{HasAsked, IsRunner}
use Rattle.cfi_guest_run.proofs.RunLemmas.{runner_paused}
use Rattle.cfi_guest_run.proofs.SeesLemmas.{on_same}

module _ (k : Key) (plan : Plan) (modules : List Module) (fuel : ℕ) (p q : PassView) (old new : Raw)
    (all : fuel ≡ plan.fuel) (was : IsRunner k plan modules p old) (going : old.base.stop ≡ None)
    (idle : old.waits ≡ None) where
  can : CanRunOn k plan.fuel p old
  can = was.is.ready going idle

  pub turn_outside : p.parked ≡ false
  turn_outside = was.outside going idle

  pub turn_runs : (pause : Pause) → HasRunOn k fuel p q old new pause → IsRunner k plan modules q new
  turn_runs pause run =
      let same = subst (λ n. HasRunOn k n p q old new pause) all run in
      runner_paused k plan modules p q old new pause can same was.ledger was.is

  pub turn_asks : (number : ℕ) → HasRunOn k fuel p q old new (pauses.Service number) → HasAsked k plan.fuel q new number
  turn_asks number run = record {
    before = p;
    old = old;
    can = can;
    then = q;
    run = subst (λ n. HasRunOn k n p q old new (pauses.Service number)) all run;
    sees = on_same k q run.keeps.sees.is;
  }
