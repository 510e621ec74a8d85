-- Valid simulations: what a schedule makes of a plan and its modules, and what its report has in common with one of a
-- run.
use Rattle.std.specs.Prelude.{◌≡◌, ℕ, ◌≤◌, ◌<◌, List, [], length, map, slice_get, Some, None}
use Rattle.cfi_aux.specs.declared.modules.Module.{Module}
use Rattle.cfi_graph.specs.Direct.{DirectEdge}
use Rattle.cfi_model.specs.Phases.{phase_of}
use Rattle.cfi_model.specs.Raw.{Raw, raw_opened}
use Rattle.cfi_model.specs.World.{World, opened_world}
use Rattle.cfi_guest_part.specs.Part.{part_of}
use Rattle.cfi_plan.specs.declared.plan.Plan.{Plan}
use Rattle.cfi_policy.specs.Image.{IsImage}
use Rattle.cfi_report.specs.declared.report.GuestPart.{GuestPart}
use Rattle.cfi_modules.specs.Image.{IsOrderedImage}
use Rattle.cfi_sim.specs.declared.limits.TheConstants.{NOT_LOADED, MAX_UPDATES}
use Rattle.cfi_sim.specs.declared.report.SimReport.{SimReport}
use Rattle.cfi_sim.specs.Events.{IsIdle}
use Rattle.cfi_sim.specs.Schedule.{ScheduleMakes}
use Rattle.cfi_sim.specs.Stage.{Stage}
use Rattle.cfi_valid.specs.Course.{Course, IsCourse}
use Rattle.cfi_valid.specs.Guests.{GuestBegins}
use Rattle.cfi_valid.specs.Journal.{JournalState, IsOpeningState, members_of}
use Rattle.cfi_valid.specs.Loaded.{placed_modules, start_fills, Left, module_line_of}
use Rattle.cfi_valid.specs.Log.{HoldsInSpan, HasNoFunction, Why, NoModule, NoFunction, Unlogged, why_of, FitsCauses}
use Rattle.cfi_valid.specs.Parts.{HasReplay, FitsSteps}
use Rattle.cfi_valid.specs.Valid.{course_of}
use Rattle.cfi_word.specs.declared.lists.Image.{Image}
use Rattle.cfi_unit.specs.declared.log.Log.{Log}

-- ---- the opening

-- the guest of this number at its entry, with the data of the start modules; no cell is filled
pub record IsGuestAt (plan : Plan) (state : JournalState) (number : ℕ) (r : Raw) : Type 0 where
  pub entry : List ℕ
  pub named : slice_get plan.guests number ≡ Some entry
  pub address : ℕ
  pub begins : GuestBegins plan state.loaded entry address
  pub is : r ≡ raw_opened number address (start_fills Left (members_of state))

-- the stage before the first line; which numbers the image's classes have is told, so that it is one
pub record IsStart (plan : Plan) (modules : List Module) (s : Stage) : Type 0 where
  pub opens : IsOpeningState plan modules s.state
  pub image : Image
  pub of_starts : (let ms = placed_modules s.state.loaded in IsImage (DirectEdge ms) ms plan.code_words image)
  pub ordered : IsOrderedImage (placed_modules s.state.loaded) image
  pub guests : List Raw
  pub count : length guests ≡ length plan.guests
  pub each : (number : ℕ) (r : Raw) → slice_get guests number ≡ Some r → IsGuestAt plan s.state number r
  pub world : s.world ≡ opened_world plan.code_words plan.versions plan.first image guests MAX_UPDATES plan.fuel
  pub journal : s.journal ≡ []
  pub aim : s.aim ≡ None
  pub events : s.events ≡ 0

-- ---- the end

-- the causes that an open can have: the plan lacks the module, the module has no function, or opens load nothing
abbrev pub IsSimCause : Course → List Log → (at number cause : ℕ) → Why → Type 0
IsSimCause c log at number cause NoModule = length c.plan.modules ≤ number
IsSimCause c log at number cause NoFunction = HoldsInSpan c log at (λ loaded live. HasNoFunction live number)
IsSimCause c log at number cause Unlogged = (number < length c.plan.modules) × (cause ≡ NOT_LOADED)
IsSimCause c log at number cause why = ⊥

-- what a guest of a simulation has logged fits
abbrev pub IsSimLogged : Course → List Log → Type 0
IsSimLogged c log = FitsCauses c (λ at asked cause. IsSimCause c log at asked cause (why_of cause)) log

-- the part of a guest: what the world has of it, and what a part of a run's report has to say, but that the guest may
-- not have stopped, and that no cell is filled; no try was repeated where no update was made and none is under way
pub record IsSimulated (c : Course) (end : World) (number : ℕ) (part : GuestPart) : Type 0 where
  pub r : Raw
  pub there : slice_get end.guests number ≡ Some r
  pub entry : slice_get c.plan.guests number ≡ Some part.entry
  pub told : part ≡ part_of number part.entry r
  pub logged : IsSimLogged c part.log
  pub replay : HasReplay Left c part
  pub steps : FitsSteps Left c part
  pub single : c.end.epoch ≡ c.plan.first → IsIdle end → steps.counts.repeats ≡ 0

-- ---- a simulation

-- the schedule leads from a start of the plan to an end, and the report says what that end has; the journal is one
-- that a run may have, of what the script alone asks
pub record IsValidSim (plan : Plan) (modules : List Module) (schedule : List ℕ) (sim : SimReport) : Type 0 where
  pub start : Stage
  pub starts : IsStart plan modules start
  pub end : Stage
  pub makes : ScheduleMakes plan modules schedule start end
  pub phase : sim.phase ≡ phase_of end.world.tables
  pub journal : sim.report.journal ≡ end.journal
  pub course : IsCourse (course_of plan modules sim.report end.state)
  pub epoch : sim.report.epoch ≡ end.state.epoch
  pub policy : sim.report.policy ≡ end.state.policy
  pub lines : sim.report.modules ≡ map (module_line_of plan.modules) end.state.loaded
  pub count : length sim.report.guests ≡ length plan.guests
  pub guests : (number : ℕ) (part : GuestPart) → slice_get sim.report.guests number ≡ Some part
      → IsSimulated (course_of plan modules sim.report end.state) end.world number part
