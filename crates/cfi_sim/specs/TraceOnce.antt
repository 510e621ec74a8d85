-- A trace is one, and is that of the simulation: what it tells happens as the schedule makes it.
use Rattle.std.specs.Prelude.{◌≡◌, ℕ, List, All}
use Rattle.cfi_aux.specs.declared.modules.Module.{Module}
use Rattle.cfi_aux.specs.Sound.{IsSoundModule}
use Rattle.cfi_plan.specs.declared.plan.Plan.{Plan}
use Rattle.cfi_plan.specs.Plan.{IsPlan}
use Rattle.cfi_sim.specs.Schedule.{ScheduleMakes}
use Rattle.cfi_sim.specs.Trace.{IsTrace}

-- a schedule has one trace at most
abbrev pub TracesAreOne : Type 0
TracesAreOne =
    (plan : Plan) (modules : List Module) (schedule a b : List ℕ) → IsPlan plan → All IsSoundModule modules →
    IsTrace plan modules schedule a → IsTrace plan modules schedule b → a ≡ b

-- what a trace tells happens as the schedule makes it
abbrev pub TracesFollow : Type 0
TracesFollow =
    (plan : Plan) (modules : List Module) (schedule text : List ℕ) (trace : IsTrace plan modules schedule text) →
    ScheduleMakes plan modules schedule trace.start trace.end
