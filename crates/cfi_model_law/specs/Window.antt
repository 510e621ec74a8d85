-- The window of a check, and what is in force in it (MCFI, Niu and Tan, PLDI 2014: a check loads the IDs of its branch
-- and of its target, and tries again where an update came between them). Loads of a guest are numbered from 0; an
-- address is in bytes.
use Rattle.std.specs.Prelude.{◌≡◌, ℕ, true, List, [], ◌∷◌, Some, ⊤}
use Rattle.cfi_unit.specs.declared.fill.Fill.{Fill}
use Rattle.cfi_unit.specs.declared.unit.Unit.{Unit as CodeUnit}
use Rattle.cfi_unit.specs.declared.unit.Unit.TheVariants as units
use Rattle.cfi_word.specs.Table.{bary_word, tary_word}
use Rattle.cfi_model.specs.Came.{Came, LoadedEnd, AreAskedBy, ends_in, loads_in, takes_in}
use Rattle.cfi_model.specs.Effect.{is_in_code}
use Rattle.cfi_model.specs.Fits.{Along}
use Rattle.cfi_model.specs.History.{History, IsHistory, IsStart}
use Rattle.cfi_model.specs.InForce.{tary_index}
use Rattle.cfi_model.specs.Raw.{Raw, raw_opened}
use Rattle.cfi_model.specs.Run.{run_of}
use Rattle.cfi_model.specs.Shows.{IsStep, Shows}
use Rattle.cfi_model.specs.State.{State, register, displaced}
use Rattle.cfi_model.specs.TableMoments.{AreTimed, HoldsFrom, IsBy, IsOfTables}
use Rattle.cfi_model.specs.Tables.{IsTables}
use Rattle.cfi_model.specs.Tries.{IsLastTry}
use Rattle.cfi_model.specs.Words.{Tables}

-- The window of a check from a slot to a target: that of its last try. The words that the check compares are those of
-- its two loads, and from the moment of the one to the moment of the other the epoch and its policy are in force.
pub record IsWindow (t : Tables) (slot target : ℕ) (one : LoadedEnd) (epoch policy : ℕ) : Type 0 where
  pub from : ℕ
  pub to : ℕ
  pub last : IsLastTry t.code_words one.loads from to
  pub slot_is : last.try.bary.access.word ≡ bary_word t.code_words slot
  pub target_is : last.try.tary.access.word ≡ tary_word t.code_words (tary_index t.code_words target)
  pub bary : one.end.bary ≡ Some last.try.bary.access.found
  pub tary : one.end.tary ≡ Some last.try.tary.access.found
  pub order : IsBy last.try.bary.access.moment last.try.tary.access.moment
  pub holds : HoldsFrom t last.try.bary.access.moment last.try.tary.access.moment epoch policy

-- where a unit is a check that asks the policy, the epoch under which it is run is in force in its window
abbrev pub AsksInForce : History → Tables → (epoch : ℕ) → LoadedEnd → CodeUnit → State → Type 0
AsksInForce h t epoch one (units.Check link rs1 imm slot) s =
    let target = displaced (register s rs1) imm in
    is_in_code target ≡ true → IsWindow t slot target one epoch (h.policy epoch)
AsksInForce h t epoch one _ s = ⊤

-- a unit of the policy machine
pub record IsStepInForce (h : History) (code : List ℕ) (t : Tables) (one : LoadedEnd) (old new : State) : Type 0 where
  pub step : IsStep h code one.end old new
  pub window : AsksInForce h t step.epoch one step.unit old

-- unit by unit
abbrev pub RunInForce : History → (code : List ℕ) → Tables → List LoadedEnd → (old new : State) → Type 0
RunInForce h code t [] old new = new ≡ old
RunInForce h code t (one ∷ later) old new =
    (mid : State) × IsStepInForce h code t one old mid × RunInForce h code t later mid new

-- a guest that began so has run unit by unit, each check under the policy in force in its window
pub record HasRunInForce (h : History) (code : List ℕ) (t : Tables) (start : Raw) (came : List Came) : Type 0 where
  pub repeats : ℕ
  pub state : State
  pub runs : RunInForce h code t (ends_in start [] came) start.base state
  pub shows : Shows h code repeats state (run_of start (takes_in came))

-- so has each that is opened at a start, where what comes to it fits, it is asked for, and its loads are of their
-- moments
abbrev pub ChecksAskInForce : Type 0
ChecksAskInForce =
    (t : Tables) → IsTables t → (h : History) (code : List ℕ) → IsHistory h code → IsOfTables t h code →
    (number entry : ℕ) (fills : List Fill) → IsStart h entry →
    let start = raw_opened number entry fills in
    (came : List Came) → Along h code start (takes_in came) → AreAskedBy t.code_words start came →
    AreTimed t (loads_in came) → HasRunInForce h code t start came
