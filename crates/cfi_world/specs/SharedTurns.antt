-- Which event on what is shared each turn of a world is.
use Rattle.std.specs.Prelude.{ℕ, ◌/◌, ◌&&◌, if◌then◌else◌, is_some, slice_get, Option, Some, None}
use Rattle.cfi_word.specs.Table.{Place}
use Rattle.cfi_word.specs.Table as places
use Rattle.cfi_model.specs.declared.act.Wait.{Wait}
use Rattle.cfi_model.specs.declared.act.Wait.TheVariants as waits
use Rattle.cfi_model.specs.declared.history.Entry.{Entry}
use Rattle.cfi_model.specs.declared.phase.Phase.{Phase}
use Rattle.cfi_model.specs.declared.phase.Phase.TheVariants as phases
use Rattle.cfi_model.specs.declared.quiet.Point.{Point}
use Rattle.cfi_model.specs.declared.quiet.Point.TheVariants.{Outside, Asking, Leaving, Found}
use Rattle.cfi_model.specs.declared.quiet.Quiet.{Quiet}
use Rattle.cfi_model.specs.declared.quiet.Quiet.TheVariants.{Unregistered, Parked, Published}
use Rattle.cfi_model.specs.InForce.{tary_index}
use Rattle.cfi_model.specs.Phases.{phase_of}
use Rattle.cfi_model.specs.Quiet.{admits}
use Rattle.cfi_model.specs.Raw.{Raw}
use Rattle.cfi_model.specs.SharedEvents.{Past, Shared, SharedEvent, AreSame, Makes}
use Rattle.cfi_model.specs.SharedEvents as shared
use Rattle.cfi_model.specs.Words.{Tables, next_epoch}
use Rattle.cfi_model.specs.World.{World, point_of, quiet_of, shared_word}
use Rattle.cfi_world.specs.Turns.{is_registered, turn_of}
use Rattle.cfi_world.specs.Updates.{is_idle}
use Rattle.cfi_world.specs.Worlds.{IsWorld}
use Rattle.cfi_world.specs.declared.event.Event.{Event}
use Rattle.cfi_world.specs.declared.event.Event.TheVariants as events

-- what is shared of a world; no QUIET word has passed where no test is under way
abbrev pub tested_in : Option Entry → (tested : ℕ) → ℕ
tested_in None tested = 0
tested_in (Some entry) tested = tested

-- the past of what is shared
abbrev pub past_in : Tables → Past
past_in t = record {
  code_words = t.code_words;
  versions = t.versions;
  first = t.first;
  entries = t.entries;
  tested = tested_in t.asked t.tested;
}

-- what is shared in a world
abbrev pub shared_in : World → Shared
shared_in w = record { past = past_in w.tables; word = shared_word w }

-- ---- a guest's turn

-- the load of a place's word
abbrev pub load_in : World → Place → SharedEvent
load_in w place = shared.Load place (shared_word w place)

-- a guest that waits for nothing fetches, and one that asks for a service parks
abbrev pub wait_event : World → (guest : ℕ) → Raw → Option Wait → Option SharedEvent
wait_event w guest r None = Some (load_in w (places.Code (r.base.pc / 4)))
wait_event w guest r (Some (waits.Tary at rd)) = Some (load_in w (places.Tary (tary_index w.tables.code_words at)))
wait_event w guest r (Some (waits.Bary slot rd)) = Some (load_in w (places.Bary slot))
wait_event w guest r (Some (waits.Service number)) = Some (shared.Park guest)

-- a quiescent point loads EPOCH, and then publishes what it has found
abbrev pub point_event : World → (guest : ℕ) → Raw → Point → Option SharedEvent
point_event w guest r Outside = wait_event w guest r r.waits
point_event w guest r Asking = None
point_event w guest r Leaving = Some (load_in w places.Epoch)
point_event w guest r (Found epoch) = Some (shared.Publish guest epoch)

-- a guest's event on it; one that has stopped has none
abbrev pub guest_event : World → (guest : ℕ) → Option Raw → Option SharedEvent
guest_event w guest None = None
guest_event w guest (Some r) =
    if is_some r.base.stop then None else point_event w guest r (point_of w guest)

-- one that has stopped leaves, while no update is under way
abbrev pub release_event : World → (guest : ℕ) → Option Raw → Option SharedEvent
release_event w guest None = None
release_event w guest (Some r) =
    if is_some r.base.stop && (is_registered (quiet_of w guest) && is_idle (phase_of w.tables))
    then Some (shared.Leave guest) else None

-- ---- the updater's turn

-- the tests are passed
abbrev pub passed_event : Option Entry → Option SharedEvent
passed_event None = None
passed_event (Some entry) = Some (shared.Pass entry)

-- a test refuses the update; only of a guest that has published one does
abbrev pub refused_event : World → (guest : ℕ) → Quiet → Option SharedEvent
refused_event w guest Unregistered = None
refused_event w guest Parked = None
refused_event w guest (Published quiet) = Some (shared.Refuse guest quiet (next_epoch w.tables))

-- what a test of a guest's word is
abbrev pub tested_event : World → (guest : ℕ) → Quiet → Option SharedEvent
tested_event w guest quiet =
    if admits w.tables.versions (next_epoch w.tables) quiet
    then passed_event w.tables.asked else refused_event w guest quiet

-- what an access of the updater is
abbrev pub update_event : World → Phase → Option SharedEvent
update_event w phases.Idle = None
update_event w (phases.Testing guest) = tested_event w guest (quiet_of w guest)
update_event w (phases.Code next) = Some (shared.Store (places.Code next))
update_event w (phases.Tary next) = Some (shared.Store (places.Tary next))
update_event w phases.Epoch = Some (shared.Store places.Epoch)
update_event w (phases.Bary next) = Some (shared.Store (places.Bary next))

-- ---- every turn; that an update is asked for, and that a guest is answered, changes nothing that is shared

-- what a turn is
abbrev pub event_in : World → Event → Option SharedEvent
event_in w (events.Guest guest) = guest_event w guest (slice_get w.guests guest)
event_in w (events.Begin image) = None
event_in w events.Update = update_event w (phase_of w.tables)
event_in w (events.Answer guest answer) = None
event_in w (events.Release guest) = release_event w guest (slice_get w.guests guest)

-- the event happens, or nothing changes
abbrev pub MakesIf : Option SharedEvent → (old new : Shared) → Type 0
MakesIf None old new = AreSame old new
MakesIf (Some event) old new = Makes event old new

-- each turn is the event that is told of it, or changes nothing
abbrev pub TurnsAreEvents : Type 0
TurnsAreEvents =
    (w : World) → IsWorld w → (event : Event) →
    MakesIf (event_in w event) (shared_in w) (shared_in (turn_of w event).world)
