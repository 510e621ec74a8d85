-- Against what the steps of a part are judged.
use Rattle.std.specs.Prelude.{◌≡◌, ℕ, List}
use Rattle.cfi_model.specs.State.{State}
use Rattle.cfi_plan.specs.declared.plan.Plan.{Plan}
use Rattle.cfi_report.specs.declared.report.GuestPart.{GuestPart}
use Rattle.cfi_valid.specs.Course.{Course}
use Rattle.cfi_valid.specs.Loaded.{Filled}
use Rattle.cfi_valid.specs.Parts.{ComesTo}

-- in the course the units of the part come to this state, over this code
pub record HasRun (plan : Plan) (epoch : ℕ) (code : List ℕ) (last : State) (c : Course) (part : GuestPart)
    : Type 0 where
  pub plan_is : c.plan ≡ plan
  pub epoch_is : c.end.epoch ≡ epoch
  pub comes : ComesTo Filled c part last
  pub code_is : comes.code ≡ code
