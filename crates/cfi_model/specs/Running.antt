-- The law of a running guest, one access after the other: where it starts, what one access makes of it, and that it
-- goes on where the history and the code grow.
use Rattle.std.specs.Prelude.{◌≡◌, ◌≢◌, ℕ, ℤ, Bool, true, ◌+◌, ◌≤◌, ◌⊎◌, List, [], length, slice_index, Some, None}
use Rattle.rv_insn.specs.InsnOf.{insn_of}
use Rattle.cfi_unit.specs.declared.fill.Fill.{Fill}
use Rattle.cfi_unit.specs.declared.log.Stop.TheVariants as stops
use Rattle.cfi_unit.specs.declared.unit.Unit.{Unit as CodeUnit}
use Rattle.cfi_unit.specs.declared.unit.Unit.TheVariants as units
use Rattle.cfi_model.specs.Effect.{is_in_code}
use Rattle.cfi_model.specs.Begin.{HasStepBy}
use Rattle.cfi_model.specs.State.{State, register, displaced, opened}
use Rattle.cfi_model.specs.Raw.{Raw, raw_opened}
use Rattle.cfi_model.specs.Run.{Take, Word, take_one, run_of}
use Rattle.cfi_model.specs.History.{History, IsEpoch, IsSeen, IsStart, IsHistory, slot_class, target_class}
use Rattle.cfi_model.specs.Fits.{Fits, Along}
use Rattle.cfi_model.specs.Shows.{Stands, LiesIn, End, IsTriedIn, IsReady, IsBetween, IsStep, Shows, end_of, ends_along}

-- a guest that has stopped stands in the unit that stopped it, which it had entered at its start
pub record IsHeld (h : History) (code : List ℕ) (s : State) (r : Raw) : Type 0 where
  pub starts : IsStart h s.pc
  pub unit : CodeUnit
  pub stands : Stands code s.pc unit
  pub lies : LiesIn s.pc unit r.base.pc

-- between two units a guest is ready for the next one, or is held in the one that stopped it
pub record IsResting (h : History) (code : List ℕ) (retries : ℕ) (s : State) (r : Raw) : Type 0 where
  pub ready : IsReady h s
  pub between : IsBetween retries s r
  pub held : s.stop ≢ None → IsHeld h code s r

-- a guest that runs: since it rested, where it showed this state, it has taken accesses each of which fits, and no unit
-- has ended with one of them
pub record IsRunning (h : History) (code : List ℕ) (retries : ℕ) (s : State) (r : Raw) : Type 0 where
  pub start : Raw
  pub rests : IsResting h code retries s start
  pub takes : List Take
  pub along : Along h code start takes
  pub unended : ends_along start takes ≡ []
  pub is : r ≡ run_of start takes

-- a guest that runs, or that the fuel has stopped before a fetch: it is then as it was, but for its stop, which is not
-- shown
pub record IsSpent (last r : Raw) : Type 0 where
  pub going : last.base.stop ≡ None
  pub idle : last.waits ≡ None
  pub is : r ≡ record last { base = record last.base { stop = Some stops.Fuel } }

-- the guest runs, or has run and is out of fuel
abbrev pub IsGuest : History → (code : List ℕ) → (retries : ℕ) → State → Raw → Type 0
IsGuest h code retries s r =
    IsRunning h code retries s r ⊎ ((last : Raw) × IsRunning h code retries s last × IsSpent last r)

-- an access has ended a unit, which the policy machine has run
pub record EndsUnit (h : History) (code : List ℕ) (retries : ℕ) (s : State) (r : Raw) (t : Take) : Type 0 where
  pub more : ℕ
  pub after : State
  pub step : IsStep h code (end_of r t) s after
  pub rests : IsResting h code (retries + more) after (take_one r t)

-- the two words are of an epoch that is or was in force, in which the slot and the target have different classes
pub record HasApartClasses (h : History) (end : End) (slot target : ℕ) : Type 0 where
  pub epoch : ℕ
  pub known : IsEpoch h epoch
  pub tried : IsTriedIn h epoch slot target end
  pub apart : slot_class h epoch slot ≢ target_class h epoch target

-- a check has stopped the guest: its target is none of the code, or the two words that the guest kept, which are of one
-- epoch, have different classes
pub record IsForbidden (h : History) (code : List ℕ) (end : End) (s : State) (target : ℕ) : Type 0 where
  pub link : Bool
  pub rs1 : ℕ
  pub imm : ℤ
  pub slot : ℕ
  pub stands : Stands code s.pc (units.Check link rs1 imm slot)
  pub is : target ≡ displaced (register s rs1) imm
  pub forbids : is_in_code target ≡ true → HasApartClasses h end slot target

-- the history has this one's epochs as they are; none that was in force is ahead
pub record Extends (h g : History) : Type 0 where
  pub first : g.first ≡ h.first
  pub longer : h.count ≤ g.count
  pub seen : h.count + h.ahead ≤ g.count + g.ahead
  pub versions : g.versions ≡ h.versions
  pub policy : (epoch : ℕ) → IsSeen h epoch → g.policy epoch ≡ h.policy epoch
  pub image : (epoch : ℕ) → IsSeen h epoch → g.image epoch ≡ h.image epoch

-- the longer code has each word of the other's that is not 0
pub record Keeps (code more : List ℕ) : Type 0 where
  pub same : length code ≡ length more
  pub kept : (place : ℕ) → slice_index code place ≢ 0 → slice_index more place ≡ slice_index code place

-- a guest that is opened at a start runs
abbrev pub OpenedRuns : Type 0
OpenedRuns =
    (h : History) (code : List ℕ) (number entry : ℕ) (fills : List Fill) → IsStart h entry →
    IsRunning h code 0 (opened number entry fills) (raw_opened number entry fills)

-- an access that fits leaves the guest running, and what it shows, or ends its unit
abbrev pub RunningGoesOn : Type 0
RunningGoesOn =
    (h : History) (code : List ℕ) → IsHistory h code →
    (retries : ℕ) (s : State) (r : Raw) → IsRunning h code retries s r →
    (t : Take) → Fits h code r t →
    IsRunning h code retries s (take_one r t) ⊎ EndsUnit h code retries s r t

-- a guest whose unit has ended runs on from there
abbrev pub RestingRuns : Type 0
RestingRuns =
    (h : History) (code : List ℕ) (retries : ℕ) (s : State) (r : Raw) → IsResting h code retries s r →
    IsRunning h code retries s r

-- where history and code grow, the guest runs on and shows what it showed
abbrev pub RunningGrows : Type 0
RunningGrows =
    (h g : History) (code more : List ℕ) → IsHistory h code → Extends h g → Keeps code more →
    (retries : ℕ) (s : State) (r : Raw) → IsRunning h code retries s r → IsRunning g more retries s r

-- a running guest shows the policy machine's state
abbrev pub RunningShows : Type 0
RunningShows =
    (h : History) (code : List ℕ) → IsHistory h code →
    (retries : ℕ) (s : State) (r : Raw) → IsRunning h code retries s r → Shows h code retries s r

-- and has a step for the code's word, where it waits for nothing
abbrev pub RunningHasSteps : Type 0
RunningHasSteps =
    (h : History) (code : List ℕ) → IsHistory h code →
    (retries : ℕ) (s : State) (r : Raw) → IsRunning h code retries s r → r.waits ≡ None →
    (word : ℕ) → Fits h code r (Word word) → HasStepBy (insn_of word) r

-- a guest is stopped with Halt only where its policy forbids the edge
abbrev pub OnlyChecksHalt : Type 0
OnlyChecksHalt =
    (h : History) (code : List ℕ) (end : End) (old new : State) → IsStep h code end old new →
    (target : ℕ) → new.stop ≡ Some (stops.Halt target) → IsForbidden h code end old target
