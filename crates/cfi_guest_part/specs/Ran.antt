-- Guests that have run over the history of a course.
use Rattle.std.specs.Prelude.{◌≡◌, ℕ, ◌+◌, List, [], ◌∷◌, slice_get, Some, ⊤}
use Rattle.cfi_model.specs.Came.{AreAskedBy, Came, loads_in, takes_in}
use Rattle.cfi_model.specs.Fits.{Along}
use Rattle.cfi_model.specs.History.{History, IsHistory, IsStart}
use Rattle.cfi_model.specs.Raw.{Raw, raw_opened}
use Rattle.cfi_model.specs.Run.{Take, take_one, run_of}
use Rattle.cfi_model.specs.Shows.{IsShown, reply_in}
use Rattle.cfi_model.specs.State.{State}
use Rattle.cfi_model.specs.TableMoments.{AreTimed, IsOfTables}
use Rattle.cfi_model.specs.Tables.{IsTables}
use Rattle.cfi_model.specs.Words.{Tables}
use Rattle.cfi_plan.specs.declared.plan.Plan.{Plan}
use Rattle.cfi_policy.specs.Code.{IsCodeOf}
use Rattle.cfi_report.specs.declared.report.GuestPart.{GuestPart}
use Rattle.cfi_valid.specs.Course.{Course}
use Rattle.cfi_valid.specs.FromLaw.{BringsDue, HasPolicies}
use Rattle.cfi_valid.specs.Guests.{GuestBegins}
use Rattle.cfi_valid.specs.Journal.{members_of}
use Rattle.cfi_valid.specs.Loaded.{Members, placed_modules, start_fills, Filled}
use Rattle.cfi_guest_part.specs.Part.{IsEndOf, part_of}

-- the guest of the number, opened where the plan's guest of this number begins, with the data of the start modules and
-- the cells
pub record IsOpenedAs (plan : Plan) (members : Members) (number : ℕ) (start : Raw) : Type 0 where
  pub entry : List ℕ
  pub entry_is : slice_get plan.guests number ≡ Some entry
  pub address : ℕ
  pub begins : GuestBegins plan members.loaded entry address
  pub is : start ≡ raw_opened number address (start_fills Filled members)

-- each answer to an open that succeeds brings the data that the guest lacks, and the cells
abbrev pub AreBrought : Members → Raw → List Take → Type 0
AreBrought members r [] = ⊤
AreBrought members r (t ∷ takes) =
    BringsDue Filled members r.base (reply_in t) × AreBrought members (take_one r t) takes

-- the history of a course and of its tables, from the first epoch of its plan to the one in force, and the code of all
-- that was loaded: each epoch's image has the code of the modules which its policy finds loaded, and the labels of those
-- that are live under it
pub record IsHistoryOf (c : Course) (t : Tables) (h : History) (code : List ℕ) : Type 0 where
  pub tables : IsTables t
  pub of_tables : IsOfTables t h code
  pub known : IsHistory h code
  pub is_code : IsCodeOf (placed_modules c.end.loaded) c.plan.code_words code
  pub policies : HasPolicies c.plan.code_words (members_of c.end) h
  pub first : h.first ≡ c.plan.first
  pub force : h.first + h.count ≡ c.end.epoch + 1
  pub ahead : h.ahead ≡ 0
  pub versions : h.versions ≡ c.plan.versions

-- The guest has run: from where the plan's guest of this number begins, the raw machine took what came to it, each of
-- which fits the history, and the guest is where that ends. What was loaded is what the machine has asked for, and each
-- load found the word of the tables at its moment.
pub record HasRun (c : Course) (t : Tables) (h : History) (code : List ℕ) (number : ℕ) (guest : Raw) : Type 0 where
  pub start : Raw
  pub opened : IsOpenedAs c.plan (members_of c.end) number start
  pub starts : IsStart h start.base.pc
  pub came : List Came
  pub asked : AreAskedBy t.code_words start came
  pub timed : AreTimed t (loads_in came)
  pub along : Along h code start (takes_in came)
  pub brings : AreBrought (members_of c.end) start (takes_in came)
  pub ends : IsEndOf (run_of start (takes_in came)) guest

-- A part tells of a guest that has run: the policy machine ran a unit for each that ended, under the policies of the
-- history, and the guest shows the state to which it came.
pub record IsRunOf (c : Course) (t : Tables) (h : History) (code : List ℕ) (number : ℕ) (part : GuestPart) : Type 0 where
  pub guest : Raw
  pub told : part ≡ part_of number part.entry guest
  pub run : HasRun c t h code number guest
  pub retries : ℕ
  pub state : State
  pub shown : IsShown h code 0 run.start.base run.start (takes_in run.came) retries state
