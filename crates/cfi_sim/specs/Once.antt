-- A simulation is one: of a plan, its modules and a schedule there is one at most, and none where a line leads nowhere.
use Rattle.std.specs.Prelude.{◌≡◌, ℕ, List, All}
use Rattle.cfi_aux.specs.declared.modules.Module.{Module}
use Rattle.cfi_aux.specs.Sound.{IsSoundModule}
use Rattle.cfi_plan.specs.declared.plan.Plan.{Plan}
use Rattle.cfi_plan.specs.Plan.{IsPlan}
use Rattle.cfi_sim.specs.declared.report.SimReport.{SimReport}
use Rattle.cfi_sim.specs.Fault.{IsFirstBad}
use Rattle.cfi_sim.specs.Valid.{IsValidSim}

-- a schedule makes one simulation at most
abbrev pub SimulationsAreOne : Type 0
SimulationsAreOne =
    (plan : Plan) (modules : List Module) (schedule : List ℕ) (a b : SimReport) → IsPlan plan →
    All IsSoundModule modules → IsValidSim plan modules schedule a → IsValidSim plan modules schedule b → a ≡ b

-- the line of this number is the first that leads nowhere
abbrev pub NoneBesideABadLine : Type 0
NoneBesideABadLine =
    (plan : Plan) (modules : List Module) (schedule : List ℕ) (number : ℕ) (sim : SimReport) → IsPlan plan →
    All IsSoundModule modules → IsFirstBad plan modules schedule number → ¬ IsValidSim plan modules schedule sim
