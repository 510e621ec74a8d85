-- A simulation under way, as it is kept.
use Rattle.std.specs.Prelude.{◌≡◌, ℕ, ◌+◌, Bool, true, false, List, [], length, slice_get, Some, None, All, IfSome, ⊤}
use Rattle.cfi_aux.specs.Sound.{IsSoundModule}
use Rattle.cfi_aux.specs.declared.modules.Module.{Module}
use Rattle.cfi_model.specs.Raw.{Raw}
use Rattle.cfi_model.specs.World.{World}
use Rattle.cfi_plan.specs.declared.plan.Plan.{Plan}
use Rattle.cfi_plan.specs.Plan.{IsPlan}
use Rattle.cfi_modules.specs.Order.{Joins}
use Rattle.cfi_modules.specs.Series.{AreAllLive, CanBeTaken}
use Rattle.cfi_sim.specs.Events.{IsAnswered, IsGuestEvent, IsReleaseEvent}
use Rattle.cfi_sim.specs.Stage.{Stage}
use Rattle.cfi_sim.specs.Stands.{IsGoing}
use Rattle.cfi_ledger.specs.Force.{state_of}
use Rattle.cfi_ledger.specs.Roster.{Offer, Roster, IsRosterOf, loaded_in_roster, series_of}
use Rattle.cfi_sim.specs.declared.pending.Pending.{Pending}
use Rattle.cfi_sim.specs.declared.pending.Pending.TheVariants.{Load, Refresh}
use Rattle.cfi_sim.specs.declared.standing.Standing.TheInside.{Inside}
use Rattle.cfi_sim.specs.inner.Pending.{aim_of}
use Rattle.cfi_valid.specs.Loaded.{LoadedModule, module_line_of, placed_modules}
use Rattle.cfi_world.specs.Turns.{turn_of}
use Rattle.cfi_world.specs.declared.event.Event.TheVariants as events
use Rattle.cfi_world.specs.declared.event.Turned.TheVariants.{Nothing}

-- the plan, its modules, and the stage
pub record Whole : Type 0 where
  pub plan : Plan
  pub modules : List Module
  pub stage : Stage

-- what is kept, as clauses see it
abbrev pub whole_inside : Inside → Whole
whole_inside a = record {
  plan = a.plan.now;
  modules = a.modules.now;
  stage = record {
    world = a.world;
    journal = a.force.journal.lines;
    state = state_of a.force;
    aim = aim_of a.pending;
    events = a.events;
  };
}

-- before the first line
abbrev pub whole_at : Plan → List Module → World → Roster → Whole
whole_at plan modules world roster = record {
  plan = plan;
  modules = modules;
  stage = record {
    world = world;
    journal = [];
    state = record {
      epoch = plan.first;
      policy = 0;
      loaded = loaded_in_roster roster;
      retired = roster.retired;
    };
    aim = None;
    events = 0;
  };
}

-- the module of this number joins those that are loaded so, with the policy behind this one
pub record IsOffered (plan : Plan) (modules : List Module) (loaded : List LoadedModule) (policy number : ℕ)
    (offer : Offer) : Type 0 where
  pub unplaced : Module
  pub is : slice_get modules number ≡ Some unplaced
  pub sound : IsSoundModule unplaced
  pub joins : Joins plan.code_words (placed_modules loaded) (placed_modules loaded) unplaced offer.placed
  pub line_is : offer.line
      ≡ module_line_of plan.modules (record { number = number; placed = offer.placed; policy = policy + 1 })

-- what an update brings fits those that are loaded
abbrev pub FitsLoaded : Plan → List Module → List LoadedModule → (policy : ℕ) → Pending → Type 0
FitsLoaded plan modules loaded policy (Load offer) = IsOffered plan modules loaded policy offer.line.number offer
FitsLoaded plan modules loaded policy Refresh = ⊤

-- what the update brings fits the loaded modules and their policy
abbrev pub PendingFits : Whole → Pending → Type 0
PendingFits x pending = FitsLoaded x.plan x.modules x.stage.state.loaded x.stage.state.policy pending

-- the roster is that of the plan, none of it was retired, and what the update brings that is under way fits it
pub record RosterFits (a : Inside) : Type 0 where
  pub roster_is : IsRosterOf a.plan.now a.force.roster
  pub live : AreAllLive (series_of a.force.roster)
  pub pending : IfSome a.pending
      (FitsLoaded a.plan.now a.modules.now (loaded_in_roster a.force.roster) a.force.policy)

-- the journal is legal so far, and the world agrees with it
pub record IsUnderWay (x : Whole) : Type 0 where
  pub plan : IsPlan x.plan
  pub taken : All CanBeTaken x.modules
  pub named : length x.modules ≡ length x.plan.modules
  pub going : IsGoing x.plan x.modules x.stage

-- the guest is there
abbrev pub IsThere : World → (guest : ℕ) → Type 0
IsThere w guest = (r : Raw) × (slice_get w.guests guest ≡ Some r)

-- its open was answered
pub record AnswersOpen (old new : Whole) (guest number : ℕ) : Type 0 where
  pub world : World
  pub answered : IsAnswered old.plan old.stage.state old.stage.world world guest number
  pub is : new ≡ record old { stage = record old.stage { world = world } }

-- an event has happened
pub record HasDone (Happens : Stage → Stage → Type 0) (old new : Whole) : Type 0 where
  pub event : Happens old.stage new.stage
  pub plan : new.plan ≡ old.plan
  pub modules : new.modules ≡ old.modules
  pub under_way : IsUnderWay new

-- a guest had an event, or has none
abbrev pub GoesBy : (guest : ℕ) → (old new : Whole) → (happened : Bool) → Type 0
GoesBy guest old new true = HasDone (IsGuestEvent old.plan guest) old new
GoesBy guest old new false = (turn_of old.stage.world (events.Guest guest)).answer ≡ Nothing

-- a guest was released, or there is nothing to be released
abbrev pub ReleasesBy : (guest : ℕ) → (old new : Whole) → (happened : Bool) → Type 0
ReleasesBy guest old new true = HasDone (IsReleaseEvent guest) old new
ReleasesBy guest old new false = (turn_of old.stage.world (events.Release guest)).answer ≡ Nothing
