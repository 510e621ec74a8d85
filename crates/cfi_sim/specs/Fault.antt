-- Why there is no simulation: the first fault of opening the plan, or the first line of the schedule that leads
-- nowhere.
use Rattle.std.specs.Prelude.{◌≡◌, ℕ, List, ◌∷◌, ◌++◌, ⊤}
use Rattle.cfi_aux.specs.declared.modules.Module.{Module}
use Rattle.cfi_plan.specs.declared.plan.Plan.{Plan}
use Rattle.cfi_ledger.specs.Opening.{IsOpenFault}
use Rattle.cfi_sim.specs.declared.fault.SimFault.{SimFault}
use Rattle.cfi_sim.specs.declared.fault.SimFault.TheVariants.{Open, BadEvent, Memory}
use Rattle.cfi_sim.specs.Schedule.{LineMakes, LinesMake}
use Rattle.cfi_sim.specs.Stage.{Stage}
use Rattle.cfi_sim.specs.Valid.{IsStart}
use Rattle.cfi_text.specs.Lines.{numbered_lines}

-- the lines before the one of this number lead from a stage to another, and it leads on from there to none
pub record IsBadLine (plan : Plan) (modules : List Module) (schedule : List ℕ) (start : Stage) (number : ℕ)
    : Type 0 where
  pub before : List (ℕ × List ℕ)
  pub text : List ℕ
  pub after : List (ℕ × List ℕ)
  pub lines : numbered_lines schedule ≡ before ++ (number, text) ∷ after
  pub mid : Stage
  pub leads : LinesMake plan modules before start mid
  pub stuck : (new : Stage) → ¬ LineMakes plan modules text mid new

-- so it is from the stage before the first line
pub record IsFirstBad (plan : Plan) (modules : List Module) (schedule : List ℕ) (number : ℕ) : Type 0 where
  pub start : Stage
  pub starts : IsStart plan modules start
  pub bad : IsBadLine plan modules schedule start number

-- the simulation cannot be made for this fault; want of memory may always be
abbrev pub IsSimFault : Plan → List Module → (schedule : List ℕ) → SimFault → Type 0
IsSimFault plan modules schedule (Open fault) = IsOpenFault plan modules fault
IsSimFault plan modules schedule (BadEvent number) = IsFirstBad plan modules schedule number
IsSimFault plan modules schedule Memory = ⊤
