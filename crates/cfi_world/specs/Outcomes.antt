-- When each answer comes.
use Rattle.std.specs.Prelude.{◌≡◌, ◌≢◌, ℕ, ◌+◌, ◌-◌, ◌<◌, ◌≤◌, ◌⊎◌, List, length, slice_get, Some, None}
use Rattle.cfi_word.specs.declared.limits.TheConstants.{MAX_OPENS}
use Rattle.cfi_word.specs.declared.services.TheConstants.{OPEN}
use Rattle.cfi_model.specs.declared.act.Wait.TheVariants as waits
use Rattle.cfi_model.specs.declared.phase.Phase.{Phase}
use Rattle.cfi_model.specs.declared.phase.Phase.TheVariants as phases
use Rattle.cfi_model.specs.declared.quiet.Point.TheVariants.{Outside, Asking}
use Rattle.cfi_model.specs.declared.quiet.Quiet.TheVariants.{Unregistered, Published}
use Rattle.cfi_model.specs.Log.{opens}
use Rattle.cfi_model.specs.Phases.{phase_of}
use Rattle.cfi_model.specs.Raw.{Raw}
use Rattle.cfi_model.specs.Service.{argument}
use Rattle.cfi_model.specs.Words.{next_epoch}
use Rattle.cfi_model.specs.World.{World, point_of, quiet_of}
use Rattle.cfi_world.specs.Laws.{MayTurns, world_after}
use Rattle.cfi_world.specs.Moments.{PassesAt, world_at}
use Rattle.cfi_world.specs.Worlds.{IsWorld}
use Rattle.cfi_world.specs.declared.event.Event.{Event}
use Rattle.cfi_world.specs.declared.event.Event.TheVariants as events

-- no guest has the number
abbrev pub IsAbsent : World → (guest : ℕ) → Type 0
IsAbsent w guest = slice_get w.guests guest ≡ None

-- a guest has it, and has stopped, or has not
abbrev pub HasStopped : World → (guest : ℕ) → Type 0
HasStopped w guest = (r : Raw) × (slice_get w.guests guest ≡ Some r) × (r.base.stop ≢ None)

-- the guest is there and has not stopped
abbrev pub IsGoing : World → (guest : ℕ) → Type 0
IsGoing w guest = (r : Raw) × (slice_get w.guests guest ≡ Some r) × (r.base.stop ≡ None)

-- the events after which nothing has happened: the seven cases
abbrev pub IsNothing : World → Event → Type 0
IsNothing w (events.Guest guest) = IsAbsent w guest ⊎ (HasStopped w guest ⊎ (point_of w guest ≡ Asking))
IsNothing w (events.Begin image) = phase_of w.tables ≢ phases.Idle
IsNothing w events.Update = phase_of w.tables ≡ phases.Idle
IsNothing w (events.Answer guest answer) = IsAbsent w guest ⊎ (point_of w guest ≢ Asking)
IsNothing w (events.Release guest) =
    IsAbsent w guest ⊎ (IsGoing w guest ⊎ ((quiet_of w guest ≡ Unregistered) ⊎ (phase_of w.tables ≢ phases.Idle)))

-- an update is not admitted: its test meets a guest that has published an epoch too far below, and all guests of lesser
-- numbers have passed
pub record IsRefusal (w : World) (guest quiet : ℕ) : Type 0 where
  pub tests : phase_of w.tables ≡ phases.Testing guest
  pub published : quiet_of w guest ≡ Published quiet
  pub late : quiet + w.tables.versions - 2 < next_epoch w.tables

-- the guest of the number exists
abbrev pub HasGuest : World → (guest : ℕ) → Type 0
HasGuest w guest = (r : Raw) × (slice_get w.guests guest ≡ Some r)

-- the guest that refuses an update has at no moment published a later epoch than the one that refuses it
abbrev pub PublishesNoneAbove : Type 0
PublishesNoneAbove =
    (w : World) → IsWorld w → (run : List Event) → MayTurns w run →
    (guest quiet : ℕ) → IsRefusal (world_after w run) guest quiet →
    (moment : ℕ) → moment ≤ length run →
    (epoch : ℕ) → quiet_of (world_at w run moment) guest ≡ Published epoch → epoch ≤ quiet

-- a test is past the guest of the number
abbrev pub IsTestPast : (guest : ℕ) → Phase → Type 0
IsTestPast guest (phases.Testing other) = guest < other
IsTestPast guest _ = ⊥

-- in a run the test of an update has passed the QUIET word of the guest, and is under way ever since
pub record HasLet (w : World) (run : List Event) (guest : ℕ) : Type 0 where
  pub moment : ℕ
  pub epoch : ℕ
  pub passes : PassesAt w run guest epoch moment
  pub since : (later : ℕ) → moment < later → later ≤ length run
      → IsTestPast guest (phase_of (world_at w run later).tables)

-- where the update that a guest refuses began in the run, the words of all lesser guests have let it go on
abbrev pub TheLeastRefuses : Type 0
TheLeastRefuses =
    (w : World) → IsWorld w → phase_of w.tables ≡ phases.Idle → (run : List Event) → MayTurns w run →
    (guest quiet : ℕ) → IsRefusal (world_after w run) guest quiet →
    (other : ℕ) → other < guest → HasLet w run other

-- a guest parks, in an open that may be logged: it waits for the answer
pub record IsOpening (w : World) (guest number : ℕ) : Type 0 where
  pub r : Raw
  pub there : slice_get w.guests guest ≡ Some r
  pub going : r.base.stop ≡ None
  pub opens_is : r.waits ≡ Some (waits.Service OPEN)
  pub few : opens r.base.log < MAX_OPENS
  pub outside : point_of w guest ≡ Outside
  pub asks : number ≡ argument r.base
