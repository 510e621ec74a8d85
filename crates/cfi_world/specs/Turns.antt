-- What each event makes of a world, and what comes of it.
use Rattle.std.specs.Prelude.{◌≡◌, ℕ, ◌+◌, ◌==◌, ◌&&◌, ◌||◌, Bool, true, false, is_some, if◌then◌else◌, slice_get, slice_set, Option, Some, None}
use Rattle.cfi_unit.specs.declared.fill.Answer.{Answer}
use Rattle.cfi_word.specs.declared.lists.Image.{Image}
use Rattle.cfi_word.specs.declared.limits.TheConstants.{MAX_EPOCH}
use Rattle.cfi_model.specs.declared.phase.Phase.{Phase}
use Rattle.cfi_model.specs.declared.phase.Phase.TheVariants as phases
use Rattle.cfi_model.specs.declared.quiet.Point.TheVariants.{Leaving}
use Rattle.cfi_model.specs.declared.quiet.Quiet.{Quiet}
use Rattle.cfi_model.specs.declared.quiet.Quiet.TheVariants.{Unregistered, Parked, Published}
use Rattle.cfi_model.specs.Phases.{phase_of}
use Rattle.cfi_model.specs.Quiet.{admits}
use Rattle.cfi_model.specs.Raw.{Raw}
use Rattle.cfi_model.specs.Run.{serve_of}
use Rattle.cfi_model.specs.Service.{Reply, argument, reply_of}
use Rattle.cfi_model.specs.Words.{epoch_in_force, next_epoch}
use Rattle.cfi_model.specs.World.{World, quiet_of, point_of}
use Rattle.cfi_world.specs.Seats.{Seat, seat_of, with_seat, seat_after, is_asking}
use Rattle.cfi_world.specs.Updates.{is_idle, begun, dropped, passed_by, stored}
use Rattle.cfi_world.specs.declared.event.Event.{Event}
use Rattle.cfi_world.specs.declared.event.Event.TheVariants as events
use Rattle.cfi_world.specs.declared.event.Turned.{Turned}
use Rattle.cfi_world.specs.declared.event.Turned.TheVariants.{Did, Asks, VersionsSpent, EpochsSpent, Nothing}

-- what an event makes of a world, and its answer
pub record Turn : Type 0 where
  pub world : World
  pub answer : Turned

-- it happened, or nothing did
abbrev pub did : World → Turn
did w = record { world = w; answer = Did }

-- nothing happens
abbrev pub nothing : World → Turn
nothing w = record { world = w; answer = Nothing }

-- a guest had an event, and may wait for its answer now
abbrev pub turned_by : (guest : ℕ) → Seat → Turned
turned_by guest s = if is_asking s.point then Asks guest (argument s.guest.base) else Did

-- a guest has its event
abbrev pub seated : World → (guest : ℕ) → Seat → Turn
seated w guest s = record { world = with_seat w guest s; answer = turned_by guest s }

-- an event of a guest that has not stopped and waits for no answer
abbrev pub guest_turn : World → (guest : ℕ) → Option Raw → Turn
guest_turn w guest None = nothing w
guest_turn w guest (Some r) =
    if is_some r.base.stop || is_asking (point_of w guest)
    then nothing w
    else seated w guest (seat_after w.tables w.fuel (seat_of w guest r))

-- an update begins where none is under way and epochs are left
abbrev pub begin_turn : World → Option Image → Turn
begin_turn w image =
    if is_idle (phase_of w.tables)
    then (if epoch_in_force w.tables == MAX_EPOCH
    then record { world = w; answer = EpochsSpent }
    else did (record w { tables = begun image w.tables; updates = w.updates + 1 }))
    else nothing w

-- the test of a QUIET word
abbrev pub refused : World → (guest : ℕ) → Quiet → Turn
refused w guest Unregistered = nothing w
refused w guest Parked = nothing w
refused w guest (Published quiet) = record {
  world = record w { tables = dropped w.tables };
  answer = VersionsSpent guest quiet;
}

-- all tests are passed, and the update goes on
abbrev pub passed_turn : World → Turn
passed_turn w = did (record w { tables = passed_by w.tables.asked w.tables })

-- a guest's word is tested
abbrev pub tested_turn : World → (guest : ℕ) → Quiet → Turn
tested_turn w guest quiet =
    if admits w.tables.versions (next_epoch w.tables) quiet
    then passed_turn w
    else refused w guest quiet

-- a word is stored
abbrev pub store_turn : World → Turn
store_turn w = did (record w { tables = stored w.tables })

-- the updater's next access
abbrev pub update_turn : World → Phase → Turn
update_turn w phases.Idle = nothing w
update_turn w (phases.Testing guest) = tested_turn w guest (quiet_of w guest)
update_turn w (phases.Code next) = store_turn w
update_turn w (phases.Tary next) = store_turn w
update_turn w phases.Epoch = store_turn w
update_turn w (phases.Bary next) = store_turn w

-- the answer to a guest that waits for it: its open's work is done
abbrev pub answered : World → (guest : ℕ) → Reply → Raw → World
answered w guest reply r = record w {
  guests = slice_set w.guests guest (serve_of r reply);
  points = slice_set w.points guest Leaving;
}

-- an answer comes to a guest that asks; to another nothing comes
abbrev pub answer_turn : World → (guest : ℕ) → Reply → Option Raw → Turn
answer_turn w guest reply None = nothing w
answer_turn w guest reply (Some r) =
    if is_asking (point_of w guest)
    then did (answered w guest reply r)
    else nothing w

-- the release of a guest that has stopped and is registered, where no update is under way
abbrev pub is_registered : Quiet → Bool
is_registered Unregistered = false
is_registered Parked = true
is_registered (Published epoch) = true

-- a guest that has stopped leaves while no update is under way
abbrev pub release_turn : World → (guest : ℕ) → Option Raw → Turn
release_turn w guest None = nothing w
release_turn w guest (Some r) =
    if is_some r.base.stop && (is_registered (quiet_of w guest) && is_idle (phase_of w.tables))
    then did (record w { quiets = slice_set w.quiets guest Unregistered })
    else nothing w

-- the reply of an answer
abbrev pub reply_in : Answer → Reply
reply_in answer = reply_of answer.address answer.cause answer.policy answer.fills.now

-- every event
abbrev pub turn_of : World → Event → Turn
turn_of w (events.Guest guest) = guest_turn w guest (slice_get w.guests guest)
turn_of w (events.Begin image) = begin_turn w image
turn_of w events.Update = update_turn w (phase_of w.tables)
turn_of w (events.Answer guest answer) = answer_turn w guest (reply_in answer) (slice_get w.guests guest)
turn_of w (events.Release guest) = release_turn w guest (slice_get w.guests guest)

-- an event turned a world into another one, and this came of it
pub record Turns (old : World) (event : Event) (new : World) (turned : Turned) : Type 0 where
  pub world : new ≡ (turn_of old event).world
  pub answer : turned ≡ (turn_of old event).answer
