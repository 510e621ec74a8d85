-- Moments of a run of events: after so many of its events, from 0. The event of a number comes at the moment of that
-- number.
-- The tries of a guest's checks in such a run (MCFI, Niu and Tan, PLDI 2014: a check loads the IDs of its branch and of
-- its target, and tries again where an update came between them). A try's window is from its first load to its last.
use Rattle.std.specs.Prelude.{◌≡◌, ℕ, ◌+◌, ◌<◌, ◌⊎◌, true, List, slice_get, take, Option, Some, None}
use Rattle.cfi_model.specs.declared.act.Wait.{Wait}
use Rattle.cfi_model.specs.declared.act.Wait.TheVariants as waits
use Rattle.cfi_model.specs.declared.quiet.Point.TheVariants.{Outside}
use Rattle.cfi_model.specs.declared.phase.Phase.TheVariants as phases
use Rattle.cfi_model.specs.Phases.{phase_of}
use Rattle.cfi_model.specs.Quiet.{admits}
use Rattle.cfi_model.specs.Raw.{Raw}
use Rattle.cfi_model.specs.Words.{next_epoch}
use Rattle.cfi_model.specs.World.{World, point_of, quiet_of}
use Rattle.cfi_world.specs.Laws.{world_after}
use Rattle.cfi_world.specs.declared.event.Event.{Event}
use Rattle.cfi_world.specs.declared.event.Event.TheVariants.{Guest, Update}

-- the world at a moment
abbrev pub world_at : World → (run : List Event) → (moment : ℕ) → World
world_at w run moment = world_after w (take moment run)

-- the guest's own event comes at a moment, and finds it in no service, and waiting for this
pub record ComesFor (w : World) (run : List Event) (guest : ℕ) (wait : Option Wait) (moment : ℕ) : Type 0 where
  pub event : slice_get run moment ≡ Some (Guest guest)
  pub r : Raw
  pub there : slice_get (world_at w run moment).guests guest ≡ Some r
  pub going : r.base.stop ≡ None
  pub outside : point_of (world_at w run moment) guest ≡ Outside
  pub waits : r.waits ≡ wait

-- with the event of a moment the test of an update to an epoch loads the guest's QUIET word, which lets it go on
pub record PassesAt (w : World) (run : List Event) (guest epoch moment : ℕ) : Type 0 where
  pub event : slice_get run moment ≡ Some Update
  pub tests : phase_of (world_at w run moment).tables ≡ phases.Testing guest
  pub epoch_is : epoch ≡ next_epoch (world_at w run moment).tables
  pub lets : admits (world_at w run moment).tables.versions epoch (quiet_of (world_at w run moment) guest) ≡ true

-- it loads the word of a slot, or that of a target
abbrev pub LoadsBary : World → (run : List Event) → (guest slot moment : ℕ) → Type 0
LoadsBary w run guest slot moment = (rd : ℕ) × ComesFor w run guest (Some (waits.Bary slot rd)) moment

-- at this moment the guest loads the word of a target
abbrev pub LoadsTary : World → (run : List Event) → (guest target moment : ℕ) → Type 0
LoadsTary w run guest target moment = (rd : ℕ) × ComesFor w run guest (Some (waits.Tary target rd)) moment

-- the event of a moment leaves the guest as it is, or is its fetch of a code word
abbrev pub LeavesTry : World → (run : List Event) → (guest moment : ℕ) → Type 0
LeavesTry w run guest moment =
    (slice_get (world_at w run (moment + 1)).guests guest ≡ slice_get (world_at w run moment).guests guest)
    ⊎ ComesFor w run guest None moment

-- between two moments the guest does nothing of a try but fetch
abbrev pub OnlyFetches : World → (run : List Event) → (guest from to : ℕ) → Type 0
OnlyFetches w run guest from to = (moment : ℕ) → from < moment → moment < to → LeavesTry w run guest moment

-- a try: the load of a slot's word, and that of a target's that follows it, with no more than code fetched between them
pub record IsTryOf (w : World) (run : List Event) (guest slot target from to : ℕ) : Type 0 where
  pub bary : LoadsBary w run guest slot from
  pub tary : LoadsTary w run guest target to
  pub order : from < to
  pub between : OnlyFetches w run guest from to

-- the last one before a moment: since its last load no more than code was fetched
pub record IsLastTryOf (w : World) (run : List Event) (guest slot target from to now : ℕ) : Type 0 where
  pub try : IsTryOf w run guest slot target from to
  pub past : to < now
  pub last : OnlyFetches w run guest to now
