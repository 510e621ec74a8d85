-- A schedule event by event, and what the world has to tell at each event for the journal to be one of a run.
use Rattle.std.specs.Prelude.{◌≡◌, ℕ, ◌<◌, List, Option, All}
use Rattle.cfi_aux.specs.declared.modules.Module.{Module}
use Rattle.cfi_aux.specs.Sound.{IsSoundModule}
use Rattle.cfi_plan.specs.declared.plan.Plan.{Plan}
use Rattle.cfi_plan.specs.Plan.{IsPlan}
use Rattle.cfi_sim.specs.Events.{IsGuestEvent, IsUpdateEvent, IsRefreshEvent, IsLoadEvent, IsReleaseEvent}
use Rattle.cfi_sim.specs.Schedule.{Repeats, ScheduleMakes}
use Rattle.cfi_sim.specs.Stage.{Stage}
use Rattle.cfi_sim.specs.Valid.{IsStart}
use Rattle.cfi_valid.specs.Journal.{IsTooOld, IsOutOfEpochs, IsJournal}
use Rattle.cfi_word.specs.declared.limits.TheConstants.{MAX_EPOCH}
use Rattle.cfi_word.specs.declared.lists.Image.{Image}
use Rattle.cfi_world.specs.declared.event.Event.TheVariants as events
use Rattle.cfi_world.specs.declared.event.Turned.TheVariants.{Did, VersionsSpent, EpochsSpent}
use Rattle.cfi_world.specs.Turns.{turn_of}

-- an event of a guest, of the updater, a load that is told or begins, a refresh that begins, a release
pub data Happening : Type 0 where
  OfGuest : (guest : ℕ) → Happening
  OfUpdate : Happening
  OfLoad : (number : ℕ) → Happening
  OfRefresh : Happening
  OfRelease : (guest : ℕ) → Happening

-- an event of each kind
abbrev pub Happens : Plan → List Module → (old new : Stage) → Happening → Type 0
Happens plan modules old new (OfGuest guest) = IsGuestEvent plan guest old new
Happens plan modules old new OfUpdate = IsUpdateEvent plan modules old new
Happens plan modules old new (OfLoad number) = IsLoadEvent plan modules number old new
Happens plan modules old new OfRefresh = IsRefreshEvent old new
Happens plan modules old new (OfRelease guest) = IsReleaseEvent guest old new

-- an event of some kind
abbrev pub IsNext : Plan → List Module → (old new : Stage) → Type 0
IsNext plan modules old new = (happening : Happening) × Happens plan modules old new happening

-- some events lead from one stage to another
abbrev pub EventsReach : Plan → List Module → (old new : Stage) → Type 0
EventsReach plan modules old new = (count : ℕ) × Repeats (IsNext plan modules) count old new

-- what a schedule makes comes of events
abbrev pub SchedulesReach : Type 0
SchedulesReach = (plan : Plan) (modules : List Module) (schedule : List ℕ) (old new : Stage) →
    ScheduleMakes plan modules schedule old new → EventsReach plan modules old new

-- ---- the journal

-- the world says of epochs and of versions what the journal does: an update begins where an epoch is left, and does
-- not for want of epochs where none is; one that is not admitted met a guest that is too far behind
pub record WorldTells (plan : Plan) (s : Stage) : Type 0 where
  pub begins : (image : Option Image) → (turn_of s.world (events.Begin image)).answer ≡ Did
      → s.state.epoch < MAX_EPOCH
  pub spent : (image : Option Image) → (turn_of s.world (events.Begin image)).answer ≡ EpochsSpent
      → IsOutOfEpochs s.state
  pub late : (guest quiet : ℕ) → (turn_of s.world events.Update).answer ≡ VersionsSpent guest quiet
      → IsTooOld plan s.state guest quiet

-- the journal of a schedule is one that a run may have
abbrev pub SchedulesJournal : Type 0
SchedulesJournal = (plan : Plan) (modules : List Module) (schedule : List ℕ) (start end : Stage) → IsPlan plan →
    All IsSoundModule modules → IsStart plan modules start → ScheduleMakes plan modules schedule start end →
    IsJournal plan modules end.journal end.state
