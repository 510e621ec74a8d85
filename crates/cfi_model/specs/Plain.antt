-- The policy machine as a program runs it: a state between two units, or one that waits for the answer to an open.
use Rattle.std.specs.Prelude.{◌≡◌, ℕ, ◌+◌, ◌*◌, ◌/◌, ◌^◌, ◌≤◌, ◌<◌, ◌==◌, ◌&&◌, nat_lt, Bool, true, false, if◌then◌else◌, List, length, slice_index, Option, Some, None}
use Rattle.cfi_unit.specs.declared.unit.Unit.{Unit as CodeUnit}
use Rattle.cfi_unit.specs.declared.unit.Unit.TheVariants as units
use Rattle.cfi_unit.specs.declared.fill.Fill.{Fill}
use Rattle.cfi_unit.specs.declared.log.Log.{Log}
use Rattle.cfi_unit.specs.declared.log.Stop.{Stop}
use Rattle.cfi_word.specs.declared.lists.Labels.{Labels}
use Rattle.cfi_model.specs.declared.step.PlainStep.{PlainStep}
use Rattle.cfi_model.specs.declared.step.PlainStep.TheVariants.{Went, Asks, Stopped}
use Rattle.cfi_word.specs.declared.limits.TheConstants.{MAX_OPENS, MAX_POLICY}
use Rattle.std.specs.List.{All}
use Rattle.cfi_model.specs.Data.{LiesInData}
use Rattle.cfi_model.specs.Log.{last_policy, last_picks, opens}
use Rattle.cfi_model.specs.Pages.{memory_filled}
use Rattle.cfi_model.specs.State.{State, opened, after}
use Rattle.cfi_model.specs.Service.{Reply, Opens, served, argument, too_many}
use Rattle.cfi_model.specs.Effect.{effect, asks, going_to}
use Rattle.cfi_model.specs.Shows.{Stands}
use Rattle.cfi_word.specs.declared.sizes.TheConstants.{FORBIDDEN_STEPS}

-- a state, and whether it waits for an answer
pub record PlainState : Type 0 where
  pub state : State
  pub waits : Bool

-- a guest at its start
abbrev pub plain_opened : (number entry : ℕ) → List Fill → PlainState
plain_opened number entry fills = record { state = opened number entry fills; waits = false }

-- a unit asks for an answer
abbrev pub asks_of : CodeUnit → State → Bool
asks_of units.Service s = asks s
asks_of _ s = false

-- a slot and an address have one class: each has a place, and the numbers there are equal
abbrev pub has_one_class : Labels → (slot target : ℕ) → Bool
has_one_class labels slot target =
    nat_lt slot (length labels.bary) && nat_lt (target / 4) (length labels.tary)
    && (slice_index labels.bary slot == slice_index labels.tary (target / 4))

-- what a unit makes of the machine, under one policy, which allows these targets of slots: an open first waits for its
-- answer
abbrev pub unit_of : CodeUnit → (policy : ℕ) → (allows : ℕ → ℕ → Bool) → PlainState → PlainState
unit_of unit policy allows m =
    if asks_of unit m.state
    then record m { waits = true }
    else record m { state = effect unit policy allows too_many m.state }

-- how a unit ended, by the machine after it
abbrev pub ended_by : Option Stop → PlainStep
ended_by None = Went
ended_by (Some stop) = Stopped stop

-- what a step comes to: it waits and asks for a module, or the unit has ended it
abbrev pub step_of : PlainState → PlainStep
step_of m = if m.waits then Asks (argument m.state) else ended_by m.state.stop

-- the open that was asked for is answered
abbrev pub answered : Reply → PlainState → PlainState
answered reply m = record {
  state = going_to (after 4 m.state.pc) 1 (served Opens reply m.state);
  waits = false;
}

-- the machine with fills over its private data
abbrev pub with_fills : List Fill → PlainState → PlainState
with_fills fills m = record m { state = record m.state { memory = memory_filled m.state.memory fills } }

-- a unit may be run where one begins: the machine runs none, and its log can take the policy
pub record CanTurn (policy : ℕ) (m : PlainState) : Type 0 where
  pub going : m.state.stop ≡ None
  pub idle : m.waits ≡ false
  pub rises : last_policy m.state.log ≤ policy
  pub most : policy ≤ MAX_POLICY
  pub few : m.state.units + 1 < 2 ^ 32

-- a unit can be run: one begins at its address
pub record CanRun (code : List ℕ) (policy : ℕ) (m : PlainState) : Type 0 where
  pub can : CanTurn policy m
  pub unit : CodeUnit
  pub stands : Stands code m.state.pc unit

-- the unit that begins at the machine's address is run, under a policy that allows these targets of slots
pub record IsTurn (code : List ℕ) (policy : ℕ) (allows : ℕ → ℕ → Bool) (old new : PlainState) (step : PlainStep)
    : Type 0 where
  pub unit : CodeUnit
  pub stands : Stands code old.state.pc unit
  pub is : new ≡ unit_of unit policy allows old
  pub step_is : step ≡ step_of new

-- an answer that a machine may get: its policy does not fall, and its fills lie inside private data
pub record CanEnd (reply : Reply) (m : PlainState) : Type 0 where
  pub waiting : m.waits ≡ true
  pub inside : All LiesInData reply.fills
  pub rises : last_policy m.state.log ≤ reply.policy
  pub most : reply.policy ≤ MAX_POLICY

-- the counts of a machine: a unit runs at most 13 instructions and makes at most one pick
pub record IsCounted (units steps : ℕ) (log : List Log) (waits : Bool) : Type 0 where
  pub steps_most : steps ≤ FORBIDDEN_STEPS * units
  pub units_most : units < 2 ^ 32
  pub picks_most : last_picks log ≤ units
  pub asks_few : waits ≡ true → opens log < MAX_OPENS
  pub ends_few : waits ≡ true → units + 1 < 2 ^ 32
