-- What of a schedule a simulation under way makes, and when it makes nothing.
use Rattle.std.specs.Prelude.{◌≡◌, ◌⊎◌, ℕ, ◌≤◌, ◌<◌, Bool, true, false, length, Option}
use Rattle.cfi_model.specs.declared.phase.Phase.{Phase}
use Rattle.cfi_model.specs.declared.phase.Phase.TheVariants as phases
use Rattle.cfi_model.specs.Phases.{phase_of}
use Rattle.cfi_model.specs.World.{World}
use Rattle.cfi_plan.specs.declared.journal.JournalLine.{JournalLine}
use Rattle.cfi_ledger.specs.Roster.{Offer}
use Rattle.cfi_sim.specs.declared.aim.Aim.{Aim}
use Rattle.cfi_sim.specs.declared.limits.TheConstants.{MAX_EVENTS, MAX_UPDATES}
use Rattle.cfi_sim.specs.Events.{IsBeginning, IsUpdateEvent, IsIdle}
use Rattle.cfi_sim.specs.Schedule.{Repeats, PassesNoLimit}
use Rattle.cfi_sim.specs.Stage.{Stage, with_journal_line, dropped, loaded_as, refreshed, IsMade}
use Rattle.cfi_sim.specs.Stands.{AimFits}
use Rattle.cfi_sim.specs.inner.Standing.{Whole, HasDone}
use Rattle.cfi_word.specs.declared.lists.Image.{Image}
use Rattle.cfi_valid.specs.Journal.{live_in}
use Rattle.cfi_world.specs.Premises.{HasRoom}
use Rattle.cfi_world.specs.Updates.{is_idle}

-- ---- within the limits

-- something has happened, and no limit is passed
pub record HasMadeWithin (Happens : (old new : Stage) → Type 0) (old new : Whole) : Type 0 where
  pub done : HasDone Happens old new
  pub within : PassesNoLimit new.stage

-- nothing of the kind happens but passes a limit
abbrev pub Cannot : (Happens : (old new : Stage) → Type 0) → Whole → Type 0
Cannot Happens old = (s : Stage) → Happens old.stage s → PassesNoLimit s → ⊥

-- something of the kind happens, or nothing can
abbrev pub MakesBy : (Happens : (old new : Stage) → Type 0) → (old new : Whole) → (happened : Bool) → Type 0
MakesBy Happens old new true = HasMadeWithin Happens old new
MakesBy Happens old new false = Cannot Happens old

-- ---- the journal

-- a line more
abbrev pub with_told : JournalLine → Whole → Whole
with_told line x = record x { stage = with_journal_line line x.stage }

-- ---- an update that begins

-- there is room for it where none is under way
abbrev pub CanBegin : World → Option Image → Type 0
CanBegin w image = is_idle (phase_of w.tables) ≡ true → w.updates < MAX_UPDATES → HasRoom w image

-- it has begun, or no epoch is left, and no limit is passed
pub record HasBegun (aim : Aim) (spent : JournalLine) (image : Option Image) (old new : Whole) : Type 0 where
  pub begins : IsBeginning aim spent image old.stage new.stage
  pub is : new ≡ record old { stage = new.stage }
  pub within : PassesNoLimit new.stage

-- an update has begun, or none can
abbrev pub BeginsBy : Aim → (spent : JournalLine) → Option Image → (old new : Whole) → (happened : Bool) → Type 0
BeginsBy aim spent image old new true = HasBegun aim spent image old new
BeginsBy aim spent image old new false = (other : Option Image) → Cannot (IsBeginning aim spent other) old

-- ---- the updater

-- no access of the updater is left: it is idle, or there were too many events
abbrev pub IsAtRest : Stage → Type 0
IsAtRest s = IsIdle s.world ⊎ MAX_EVENTS ≤ s.events

-- an access of the updater was made, or none is left
abbrev pub AdvancesBy : (old new : Whole) → (happened : Bool) → Type 0
AdvancesBy old new true = HasMadeWithin (IsUpdateEvent old.plan old.modules) old new
AdvancesBy old new false = IsAtRest old.stage

-- so many accesses were made
pub record HasAdvanced (old new : Whole) : Type 0 where
  pub count : ℕ
  pub made : HasMadeWithin (Repeats (IsUpdateEvent old.plan old.modules) count) old new

-- an update was not made
abbrev pub with_dropped : (guest quiet : ℕ) → Whole → Whole
with_dropped guest quiet x = record x { stage = dropped x.stage.aim guest quiet x.stage }

-- or was made: the module is loaded, or the epoch is the next one
abbrev pub with_entered : Offer → Whole → Whole
with_entered offer x = record x { stage = loaded_as offer.line.number offer.placed x.stage }

-- the next epoch is in force
abbrev pub with_refreshed : Whole → Whole
with_refreshed x = record x { stage = refreshed x.stage }

-- the update is in force, if one was under way
pub record HasCome (old new : Whole) : Type 0 where
  pub made : IsMade old.plan old.modules old.stage.aim old.stage new.stage
  pub is : new ≡ record old { stage = new.stage }

-- what the update is for fits, as it did when it began, and none of the modules was retired
pub record FitsAim (x : Whole) : Type 0 where
  pub fits : AimFits x.plan x.modules x.stage.state x.stage.aim
  pub few : x.stage.state.policy ≤ length x.stage.state.loaded
  pub live : live_in x.stage.state ≡ x.stage.state.loaded

-- an access in a phase has made it, or has not
abbrev pub NotesBy : Phase → (old new : Whole) → Type 0
NotesBy phases.Epoch old new = HasCome old new
NotesBy phases.Idle old new = new ≡ old
NotesBy (phases.Testing guest) old new = new ≡ old
NotesBy (phases.Code index) old new = new ≡ old
NotesBy (phases.Tary index) old new = new ≡ old
NotesBy (phases.Bary slot) old new = new ≡ old
