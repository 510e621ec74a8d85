-- How far updates come above what a guest has published, at each moment of a run from the opening on (MCFI, Niu and
-- Tan, PLDI 2014: a version is used again only when no check can still hold an ID that has it). Moments and events are
-- numbered as in runs: the event of a number comes at the moment of that number.
use Rattle.std.specs.Prelude.{◌≡◌, ◌⊎◌, ℕ, zero, suc, ◌+◌, ◌^◌, ◌≤◌, ◌<◌, List, slice_get, Some, ⊤}
use Rattle.cfi_word.specs.declared.lists.Image.{Image}
use Rattle.cfi_word.specs.Table.{IsSize}
use Rattle.cfi_word.specs.Word.{epoch_in}
use Rattle.cfi_model.specs.declared.quiet.Point.TheVariants.{Found}
use Rattle.cfi_model.specs.declared.quiet.Quiet.TheVariants.{Published}
use Rattle.cfi_model.specs.Raw.{Raw}
use Rattle.cfi_model.specs.World.{World, opened_world, point_of, quiet_of}
use Rattle.cfi_world.specs.Checks.{bary_in, tary_in}
use Rattle.cfi_world.specs.Laws.{MayTurns}
use Rattle.cfi_world.specs.Moments.{LoadsBary, PassesAt, world_at}
use Rattle.cfi_world.specs.Premises.{CanOpen}
use Rattle.cfi_world.specs.declared.event.Event.{Event}
use Rattle.cfi_world.specs.declared.event.Event.TheVariants as events

-- the last update before a moment whose test has passed the guest's QUIET word is one to this epoch; where there is
-- none, the epoch is the first
pub record IsLastPassed (w : World) (run : List Event) (guest epoch test now : ℕ) : Type 0 where
  pub passes : PassesAt w run guest epoch test
  pub past : test < now
  pub last : (later other : ℕ) → test < later → later < now → PassesAt w run guest other later → ⊥

-- the guest has passed no test before this moment, and the epoch is the first
pub record HasPassedNone (w : World) (run : List Event) (guest epoch now : ℕ) : Type 0 where
  pub none : (moment other : ℕ) → moment < now → PassesAt w run guest other moment → ⊥
  pub first : epoch ≡ w.tables.first

-- the epoch is that of the last test that the guest has passed before this moment, or the first
abbrev pub IsPassedLast : World → (run : List Event) → (guest epoch now : ℕ) → Type 0
IsPassedLast w run guest epoch now =
    HasPassedNone w run guest epoch now ⊎ ((test : ℕ) × IsLastPassed w run guest epoch test now)

-- the event of a moment is the store with which the guest publishes an epoch
pub record StoresAt (w : World) (run : List Event) (guest epoch moment : ℕ) : Type 0 where
  pub event : slice_get run moment ≡ Some (events.Guest guest)
  pub found : point_of (world_at w run moment) guest ≡ Found epoch

-- it comes before a moment, or this is the opening
abbrev pub IsBehindStore : World → (run : List Event) → (guest epoch from : ℕ) → Type 0
IsBehindStore w run guest epoch zero = ⊤
IsBehindStore w run guest epoch (suc store) = StoresAt w run guest epoch store

-- the guest's QUIET word tells this epoch from its present store on
pub record IsToldFrom (w : World) (run : List Event) (guest epoch from now : ℕ) : Type 0 where
  pub behind : IsBehindStore w run guest epoch from
  pub past : from ≤ now
  pub told : (moment : ℕ) → from ≤ moment → moment ≤ now
      → quiet_of (world_at w run moment) guest ≡ Published epoch

-- each Bary word that the guest has loaded since then is of this epoch at least, or of the one before
abbrev pub HasLoadedFrom : World → (run : List Event) → (guest from now epoch : ℕ) → Type 0
HasLoadedFrom w run guest from now epoch =
    (slot load : ℕ) → from ≤ load → load < now → LoadsBary w run guest slot load →
    epoch ≤ epoch_in (bary_in (world_at w run load) slot) + 1

-- the update is within V - 2 of what was published, and what was loaded since is at most one epoch behind that
pub record IsWithin (w : World) (run : List Event) (guest quiet epoch from now : ℕ) : Type 0 where
  pub near : epoch + 2 ≤ quiet + w.tables.versions
  pub loaded : HasLoadedFrom w run guest from now quiet

-- or its test has loaded the guest's word before the present store, and what was loaded since is at most one epoch
-- behind the update
pub record IsBehind (w : World) (run : List Event) (guest epoch from now : ℕ) : Type 0 where
  pub test : ℕ
  pub last : IsLastPassed w run guest epoch test now
  pub before : test + 1 < from
  pub loaded : HasLoadedFrom w run guest from now epoch

-- no Tary word is above the epoch of the last update that has passed the guest's word
pub record IsBounded (w : World) (run : List Event) (guest quiet now : ℕ) : Type 0 where
  pub epoch : ℕ
  pub passed : IsPassedLast w run guest epoch now
  pub from : ℕ
  pub told : IsToldFrom w run guest quiet from now
  pub tary : (target : ℕ) → epoch_in (tary_in (world_at w run now) target) ≤ epoch
  pub bary : IsWithin w run guest quiet epoch from now ⊎ IsBehind w run guest epoch from now

-- so it is at each moment of a run from an opening on, for each guest whose QUIET word tells an epoch
abbrev pub UpdatesAreBounded : Type 0
UpdatesAreBounded =
    (code_words versions first : ℕ) (image : Image) (guests : List Raw) (room fuel : ℕ) → IsSize code_words →
    CanOpen code_words versions first image guests fuel → room < 2 ^ 32 → fuel < 2 ^ 32 →
    let w = opened_world code_words versions first image guests room fuel in
    (run : List Event) → MayTurns w run → (guest quiet now : ℕ) →
    quiet_of (world_at w run now) guest ≡ Published quiet → IsBounded w run guest quiet now
