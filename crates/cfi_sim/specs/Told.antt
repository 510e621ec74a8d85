-- What a simulation tells of the end of its schedule, and that it is valid then.
use Rattle.std.specs.Prelude.{◌≡◌, ℕ, List, length, map, slice_get, Some, All}
use Rattle.cfi_aux.specs.declared.modules.Module.{Module}
use Rattle.cfi_aux.specs.Sound.{IsSoundModule}
use Rattle.cfi_model.specs.Phases.{phase_of}
use Rattle.cfi_model.specs.Raw.{Raw}
use Rattle.cfi_model.specs.World.{World}
use Rattle.cfi_guest_part.specs.Part.{part_of}
use Rattle.cfi_plan.specs.declared.plan.Plan.{Plan}
use Rattle.cfi_plan.specs.Plan.{IsPlan}
use Rattle.cfi_report.specs.declared.report.GuestPart.{GuestPart}
use Rattle.cfi_sim.specs.declared.report.SimReport.{SimReport}
use Rattle.cfi_sim.specs.Schedule.{ScheduleMakes}
use Rattle.cfi_sim.specs.Stage.{Stage}
use Rattle.cfi_sim.specs.Valid.{IsStart, IsValidSim}
use Rattle.cfi_valid.specs.Loaded.{module_line_of}

-- what the world has of a guest
pub record IsToldGuest (plan : Plan) (w : World) (number : ℕ) (part : GuestPart) : Type 0 where
  pub r : Raw
  pub there : slice_get w.guests number ≡ Some r
  pub entry : slice_get plan.guests number ≡ Some part.entry
  pub told : part ≡ part_of number part.entry r

-- how far the updater has come, the journal, what is in force and loaded, and each guest
pub record IsToldSim (plan : Plan) (end : Stage) (sim : SimReport) : Type 0 where
  pub phase : sim.phase ≡ phase_of end.world.tables
  pub journal : sim.report.journal ≡ end.journal
  pub epoch : sim.report.epoch ≡ end.state.epoch
  pub policy : sim.report.policy ≡ end.state.policy
  pub lines : sim.report.modules ≡ map (module_line_of plan.modules) end.state.loaded
  pub count : length sim.report.guests ≡ length plan.guests
  pub guests : (number : ℕ) (part : GuestPart) → slice_get sim.report.guests number ≡ Some part
      → IsToldGuest plan end.world number part

-- what is told of the end of a schedule is a valid simulation
abbrev pub SchedulesAreValid : Type 0
SchedulesAreValid = (plan : Plan) (modules : List Module) (schedule : List ℕ) (start end : Stage) (sim : SimReport) →
    IsPlan plan → All IsSoundModule modules → IsStart plan modules start →
    ScheduleMakes plan modules schedule start end → IsToldSim plan end sim → IsValidSim plan modules schedule sim
