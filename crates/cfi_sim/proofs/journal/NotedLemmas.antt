-- What an access of the updater means.
use Rattle.std.proofs.Common.{◌≡◌, ◌≢◌, ℕ, ◌+◌, true, false, List, Option, Some, None, refl, ap, inl, inr, ◌⊎◌}
use Rattle.cfi_aux.specs.declared.modules.Module.{Module}
use Rattle.cfi_model.specs.declared.phase.Phase.{Phase}
use Rattle.cfi_model.specs.declared.phase.Phase.TheVariants as phases
use Rattle.cfi_model.specs.Phases.{phase_of}
use Rattle.cfi_plan.specs.declared.plan.Plan.{Plan}
use Rattle.cfi_sim.specs.declared.aim.Aim.{Aim}
use Rattle.cfi_sim.specs.declared.aim.Aim.TheVariants.{Loading, Refreshing}
use Rattle.cfi_sim.specs.Events.{IsNoted, IsUpdateEvent}
use Rattle.cfi_sim.specs.Stage.{Stage, IsMade, after_event, dropped}
use Rattle.cfi_sim.specs.inner.Making.{NotesBy}
use Rattle.cfi_sim.specs.inner.Standing.{Whole}
use Rattle.cfi_world.specs.declared.event.Event.TheVariants as events
use Rattle.cfi_world.specs.declared.event.Turned.{Turned}
use Rattle.cfi_world.specs.declared.event.Turned.TheVariants.{Nothing, Did, Asks, VersionsSpent, EpochsSpent}
use Rattle.cfi_world.specs.Turns.{turn_of}
use Rattle.cfi_world.specs.Updates.{is_idle}

pub not_spent : (phase : Phase) (answer : Turned) → ((guest quiet : ℕ) → answer ≡ VersionsSpent guest quiet → ⊥)
    → (old new : Whole) → NotesBy phase old new → IsNoted old.plan old.modules phase answer old.stage new.stage
not_spent phase (VersionsSpent guest quiet) other old new notes = absurd (other guest quiet refl)
not_spent phases.Epoch Did other old new notes = notes.made
not_spent phases.Epoch (Asks guest number) other old new notes = notes.made
not_spent phases.Epoch EpochsSpent other old new notes = notes.made
not_spent phases.Epoch Nothing other old new notes = notes.made
not_spent phases.Idle Did other old new notes = ap (λ (w : Whole). w.stage) notes
not_spent phases.Idle (Asks guest number) other old new notes = ap (λ (w : Whole). w.stage) notes
not_spent phases.Idle EpochsSpent other old new notes = ap (λ (w : Whole). w.stage) notes
not_spent phases.Idle Nothing other old new notes = ap (λ (w : Whole). w.stage) notes
not_spent (phases.Testing k) Did other old new notes = ap (λ (w : Whole). w.stage) notes
not_spent (phases.Testing k) (Asks guest number) other old new notes = ap (λ (w : Whole). w.stage) notes
not_spent (phases.Testing k) EpochsSpent other old new notes = ap (λ (w : Whole). w.stage) notes
not_spent (phases.Testing k) Nothing other old new notes = ap (λ (w : Whole). w.stage) notes
not_spent (phases.Code k) Did other old new notes = ap (λ (w : Whole). w.stage) notes
not_spent (phases.Code k) (Asks guest number) other old new notes = ap (λ (w : Whole). w.stage) notes
not_spent (phases.Code k) EpochsSpent other old new notes = ap (λ (w : Whole). w.stage) notes
not_spent (phases.Code k) Nothing other old new notes = ap (λ (w : Whole). w.stage) notes
not_spent (phases.Tary k) Did other old new notes = ap (λ (w : Whole). w.stage) notes
not_spent (phases.Tary k) (Asks guest number) other old new notes = ap (λ (w : Whole). w.stage) notes
not_spent (phases.Tary k) EpochsSpent other old new notes = ap (λ (w : Whole). w.stage) notes
not_spent (phases.Tary k) Nothing other old new notes = ap (λ (w : Whole). w.stage) notes
not_spent (phases.Bary k) Did other old new notes = ap (λ (w : Whole). w.stage) notes
not_spent (phases.Bary k) (Asks guest number) other old new notes = ap (λ (w : Whole). w.stage) notes
not_spent (phases.Bary k) EpochsSpent other old new notes = ap (λ (w : Whole). w.stage) notes
not_spent (phases.Bary k) Nothing other old new notes = ap (λ (w : Whole). w.stage) notes

-- the updater is busy
pub busy : (phase : Phase) → is_idle phase ≡ false → phase ≢ phases.Idle
busy phase test same = let idle : is_idle phase ≡ true = ap is_idle same in absurd (cc)

-- what an access means is one of three
abbrev IsOneOfThree : Plan → List Module → Turned → (old new : Stage) → Type 0
IsOneOfThree plan modules answer old new =
    ((guest : ℕ) × (quiet : ℕ) × (new ≡ dropped old.aim guest quiet old))
    ⊎ (IsMade plan modules old.aim old new ⊎ (new ≡ old))

module _ (plan : Plan) (modules : List Module) where
  one_of_three : (phase : Phase) (answer : Turned) (old new : Stage) → IsNoted plan modules phase answer old new
      → IsOneOfThree plan modules answer old new
  one_of_three phase (VersionsSpent guest quiet) old new noted = inl (guest, quiet, noted)
  one_of_three phases.Epoch Did old new noted = inr (inl noted)
  one_of_three phases.Epoch (Asks guest number) old new noted = inr (inl noted)
  one_of_three phases.Epoch EpochsSpent old new noted = inr (inl noted)
  one_of_three phases.Epoch Nothing old new noted = inr (inl noted)
  one_of_three phases.Idle Did old new noted = inr (inr noted)
  one_of_three phases.Idle (Asks guest number) old new noted = inr (inr noted)
  one_of_three phases.Idle EpochsSpent old new noted = inr (inr noted)
  one_of_three phases.Idle Nothing old new noted = inr (inr noted)
  one_of_three (phases.Testing k) Did old new noted = inr (inr noted)
  one_of_three (phases.Testing k) (Asks guest number) old new noted = inr (inr noted)
  one_of_three (phases.Testing k) EpochsSpent old new noted = inr (inr noted)
  one_of_three (phases.Testing k) Nothing old new noted = inr (inr noted)
  one_of_three (phases.Code k) Did old new noted = inr (inr noted)
  one_of_three (phases.Code k) (Asks guest number) old new noted = inr (inr noted)
  one_of_three (phases.Code k) EpochsSpent old new noted = inr (inr noted)
  one_of_three (phases.Code k) Nothing old new noted = inr (inr noted)
  one_of_three (phases.Tary k) Did old new noted = inr (inr noted)
  one_of_three (phases.Tary k) (Asks guest number) old new noted = inr (inr noted)
  one_of_three (phases.Tary k) EpochsSpent old new noted = inr (inr noted)
  one_of_three (phases.Tary k) Nothing old new noted = inr (inr noted)
  one_of_three (phases.Bary k) Did old new noted = inr (inr noted)
  one_of_three (phases.Bary k) (Asks guest number) old new noted = inr (inr noted)
  one_of_three (phases.Bary k) EpochsSpent old new noted = inr (inr noted)
  one_of_three (phases.Bary k) Nothing old new noted = inr (inr noted)

  -- it changes neither world nor count
  record IsBeside (old new : Stage) : Type 0 where
    world : new.world ≡ old.world
    events : new.events ≡ old.events

  same_beside : (old new : Stage) → new ≡ old → IsBeside old new
  same_beside old new is = record {
    world = ap (λ (s : Stage). s.world) is;
    events = ap (λ (s : Stage). s.events) is;
  }

  dropped_beside : (aim : Option Aim) (guest quiet : ℕ) (old new : Stage) → new ≡ dropped aim guest quiet old
      → IsBeside old new
  dropped_beside None guest quiet old new is = same_beside old new is
  dropped_beside (Some aim) guest quiet old new is = record {
    world = ap (λ (s : Stage). s.world) is;
    events = ap (λ (s : Stage). s.events) is;
  }

  made_beside : (aim : Option Aim) (old new : Stage) → IsMade plan modules aim old new → IsBeside old new
  made_beside None old new made = same_beside old new made
  made_beside (Some (Loading number)) old new made = record {
    world = ap (λ (s : Stage). s.world) made.1;
    events = ap (λ (s : Stage). s.events) made.1;
  }
  made_beside (Some Refreshing) old new made = record {
    world = ap (λ (s : Stage). s.world) made;
    events = ap (λ (s : Stage). s.events) made;
  }

  three_beside : (answer : Turned) (old new : Stage) → IsOneOfThree plan modules answer old new → IsBeside old new
  three_beside answer old new (inl spent) = dropped_beside old.aim spent.0 spent.1 old new spent.2
  three_beside answer old new (inr (inl made)) = made_beside old.aim old new made
  three_beside answer old new (inr (inr same)) = same_beside old new same

  update_beside : (old new : Stage) → IsUpdateEvent plan modules old new
      → IsBeside (after_event (turn_of old.world events.Update).world old) new
  update_beside old new event =
      let turn = turn_of old.world events.Update in
      let after = after_event turn.world old in
      three_beside turn.answer after new
      (one_of_three (phase_of old.world.tables) turn.answer after new event.is)

  -- an access is one event, and the world's alone
  pub update_counts : (old new : Stage) → IsUpdateEvent plan modules old new → new.events ≡ old.events + 1
  update_counts old new event = (update_beside old new event).events

  pub update_world : (old new : Stage) → IsUpdateEvent plan modules old new
      → new.world ≡ (turn_of old.world events.Update).world
  update_world old new event = (update_beside old new event).world
