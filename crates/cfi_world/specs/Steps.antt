-- The steps of the policy machine that a guest makes in a run of events, from the opening on.
use Rattle.std.specs.Prelude.{◌≡◌, ℕ, ◌+◌, ◌^◌, ◌<◌, ◌≤◌, true, List, [], ◌∷◌, length, slice_get, Some, ⊤}
use Rattle.cfi_unit.specs.declared.unit.Unit.{Unit as CodeUnit}
use Rattle.cfi_unit.specs.declared.unit.Unit.TheVariants as units
use Rattle.cfi_word.specs.Table.{IsSize}
use Rattle.cfi_word.specs.declared.lists.Image.{Image}
use Rattle.cfi_model.specs.Effect.{is_in_code}
use Rattle.cfi_model.specs.InForce.{history_of, code_in_force}
use Rattle.cfi_model.specs.Raw.{Raw}
use Rattle.cfi_model.specs.Running.{IsGuest}
use Rattle.cfi_model.specs.State.{State, register, displaced}
use Rattle.cfi_model.specs.TableMoments.{IsInForce}
use Rattle.cfi_model.specs.Tries.{IsInWindow}
use Rattle.cfi_model.specs.World.{World, opened_world}
use Rattle.cfi_world.specs.Checks.{bary_in, tary_in}
use Rattle.cfi_world.specs.Laws.{IsStepped, MayTurns, answer_in}
use Rattle.cfi_world.specs.Moments.{IsLastTryOf, world_at}
use Rattle.cfi_world.specs.Premises.{CanOpen}
use Rattle.cfi_world.specs.declared.event.Event.{Event}

-- The window of a check that ends at a moment: that of its last try, whose two words the guest keeps. The epoch and its
-- policy are in force at each moment of it.
pub record IsAskedIn (w : World) (run : List Event) (guest slot target : ℕ) (r : Raw) (epoch policy now : ℕ) : Type 0
  where
    pub from : ℕ
    pub to : ℕ
    pub last : IsLastTryOf w run guest slot target from to now
    pub bary : r.bary ≡ Some (bary_in (world_at w run from) slot)
    pub tary : r.tary ≡ Some (tary_in (world_at w run to) target)
    pub force : (moment : ℕ) → IsInWindow from to moment → IsInForce (world_at w run moment).tables epoch policy

-- where a unit is a check that asks the policy, the epoch under which it is run is in force in its window
abbrev pub AsksInForce : World → (run : List Event) → (guest : ℕ) → Raw → (epoch policy now : ℕ) → CodeUnit → State
    → Type 0
AsksInForce w run guest r epoch policy now (units.Check link rs1 imm slot) s =
    let target = displaced (register s rs1) imm in
    is_in_code target ≡ true → IsAskedIn w run guest slot target r epoch policy now
AsksInForce w run guest r epoch policy now _ s = ⊤

-- where a guest was before a step: at which moment the step came, and which state it showed, after how many repeated
-- tries
pub record Before : Type 0 where
  pub moment : ℕ
  pub state : State
  pub retries : ℕ

-- the event of that moment has ended a unit of the guest, which showed the state before it and shows the next one after
-- it, and the policy machine has run that unit
pub record IsStepAt (w : World) (run : List Event) (guest : ℕ) (from : Before) (retries : ℕ) (state : State) : Type 0
  where
    pub event : Event
    pub comes : slice_get run from.moment ≡ Some event
    pub r : Raw
    pub there : slice_get (world_at w run from.moment).guests guest ≡ Some r
    pub showed : (let t = (world_at w run from.moment).tables in
        IsGuest (history_of t) (code_in_force t) from.retries from.state r)
    pub now : Raw
    pub after : slice_get (world_at w run (from.moment + 1)).guests guest ≡ Some now
    pub shows : (let t = (world_at w run (from.moment + 1)).tables in
        IsGuest (history_of t) (code_in_force t) retries state now)
    pub stepped : (let t = (world_at w run from.moment).tables in
        IsStepped (history_of t) (code_in_force t) (answer_in event) from.retries from.state r now retries state)
    pub asks : (let epoch = stepped.step.epoch in
        AsksInForce w run guest r epoch ((history_of (world_at w run from.moment).tables).policy epoch) from.moment
        stepped.step.unit from.state)

-- the steps that were made before a moment, the last one first, lead from a state, without a repeated try, to another
abbrev pub HasMade : World → (run : List Event) → (guest : ℕ) → (start : State) → List Before → (now retries : ℕ)
    → State → Type 0
HasMade w run guest start [] now retries state = (state ≡ start) × (retries ≡ 0)
HasMade w run guest start (from ∷ earlier) now retries state =
    (from.moment < now) × IsStepAt w run guest from retries state
    × HasMade w run guest start earlier from.moment from.retries from.state

-- at a moment of a run a guest shows the state to which its steps have led
pub record HasRun (w : World) (run : List Event) (guest : ℕ) (start : State) (moment : ℕ) : Type 0 where
  pub now : Raw
  pub there : slice_get (world_at w run moment).guests guest ≡ Some now
  pub retries : ℕ
  pub state : State
  pub shows : (let t = (world_at w run moment).tables in
      IsGuest (history_of t) (code_in_force t) retries state now)
  pub steps : List Before
  pub made : HasMade w run guest start steps moment retries state

-- so does each guest of a world from its opening on, at each moment of each list of events
abbrev pub RunsAreSteps : Type 0
RunsAreSteps =
    (code_words versions first : ℕ) (image : Image) (guests : List Raw) (room fuel : ℕ) → IsSize code_words →
    CanOpen code_words versions first image guests fuel → room < 2 ^ 32 → fuel < 2 ^ 32 →
    let w = opened_world code_words versions first image guests room fuel in
    (run : List Event) → MayTurns w run →
    (guest : ℕ) (r : Raw) → slice_get guests guest ≡ Some r →
    (moment : ℕ) → moment ≤ length run → HasRun w run guest r.base moment
