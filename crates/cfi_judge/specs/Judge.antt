-- Why a report is none of a plan and its modules: the first part that fails, in the order of the variants, and in it
-- the least line or guest.
use Rattle.std.specs.Prelude.{ℕ, ◌≡◌, ◌<◌, List, slice_get, Some, ⊤}
use Rattle.cfi_aux.specs.declared.modules.Module.{Module}
use Rattle.cfi_plan.specs.declared.plan.Plan.{Plan}
use Rattle.cfi_report.specs.declared.report.GuestPart.{GuestPart}
use Rattle.cfi_report.specs.declared.report.Report.{Report}
use Rattle.cfi_valid.specs.Course.{Course}
use Rattle.cfi_valid.specs.Journal.{JournalState}
use Rattle.cfi_valid.specs.Log.{IsLogged}
use Rattle.cfi_valid.specs.Modules.{HasModules}
use Rattle.cfi_valid.specs.Parts.{FitsEndedSteps, HasEndedReplay}
use Rattle.cfi_valid.specs.Valid.{HasGuests, HasJournal, HasScript, OfEach, course_of}
use Rattle.cfi_judge.specs.Journal.{IsJournalFault}
use Rattle.cfi_judge.specs.Modules.{HasSomeModules}
use Rattle.cfi_judge.specs.declared.fault.JournalFault.{JournalFault}
use Rattle.cfi_judge.specs.declared.fault.JournalFault.TheVariants.{Line}
use Rattle.cfi_judge.specs.declared.fault.JournalFault.TheVariants as lines
use Rattle.cfi_judge.specs.declared.fault.JudgeFault.{JudgeFault}
use Rattle.cfi_judge.specs.declared.fault.JudgeFault.TheVariants.{Modules, Journal, Script, Guests, Log, Replay, Steps, Memory}

-- ---- guests

-- what each of three parts says of a guest, by its number
abbrev pub HasItsLog : Course → (number : ℕ) → GuestPart → Type 0
HasItsLog c number part = IsLogged c number part.log

-- its replay
abbrev pub HasItsReplay : Course → (number : ℕ) → GuestPart → Type 0
HasItsReplay c number part = HasEndedReplay c part

-- its steps
abbrev pub HasItsSteps : Course → (number : ℕ) → GuestPart → Type 0
HasItsSteps c number part = FitsEndedSteps c part

-- the guest of this number is the first of which something does not hold
pub record IsFirstPart (report : Report) (Holds : (number : ℕ) → GuestPart → Type 0) (number : ℕ) : Type 0 where
  pub part : GuestPart
  pub is : slice_get report.guests number ≡ Some part
  pub fails : ¬ Holds number part
  pub before : (k : ℕ) (other : GuestPart) → k < number → slice_get report.guests k ≡ Some other → Holds k other

-- ---- the parts up to one of them

-- the modules and the journal hold, which leads to this state
pub record HoldsToJournal (plan : Plan) (modules : List Module) (report : Report) (end : JournalState) : Type 0 where
  pub listed : HasModules plan modules report end.loaded
  pub journal : HasJournal plan modules report end

-- and the script
pub record HoldsToScript (plan : Plan) (modules : List Module) (report : Report) (end : JournalState) : Type 0 where
  pub before : HoldsToJournal plan modules report end
  pub script : HasScript plan report

-- and the guests
pub record HoldsToGuests (plan : Plan) (modules : List Module) (report : Report) (end : JournalState) : Type 0 where
  pub before : HoldsToScript plan modules report end
  pub guests : HasGuests (course_of plan modules report end) report

-- and the logs
pub record HoldsToLogs (plan : Plan) (modules : List Module) (report : Report) (end : JournalState) : Type 0 where
  pub before : HoldsToGuests plan modules report end
  pub logs : OfEach report (HasItsLog (course_of plan modules report end))

-- and the replays
pub record HoldsToReplays (plan : Plan) (modules : List Module) (report : Report) (end : JournalState) : Type 0 where
  pub before : HoldsToLogs plan modules report end
  pub replays : OfEach report (HasItsReplay (course_of plan modules report end))

-- ---- faults

-- the fault of a journal, as one of its report
abbrev pub journal_fault : JournalFault → JudgeFault
journal_fault (Line number) = Journal number
journal_fault lines.Memory = Memory

-- the fault of a report: a case a part, where all parts before it hold; want of memory says nothing
abbrev pub IsJudgeFault : Plan → List Module → Report → JudgeFault → Type 0
IsJudgeFault plan modules report Modules = ¬ HasSomeModules plan modules report
IsJudgeFault plan modules report (Journal number) =
    HasSomeModules plan modules report × IsJournalFault plan modules report (Line number)
IsJudgeFault plan modules report Script =
    (end : JournalState) × HoldsToJournal plan modules report end × (¬ HasScript plan report)
IsJudgeFault plan modules report Guests =
    (end : JournalState) × HoldsToScript plan modules report end
    × (¬ HasGuests (course_of plan modules report end) report)
IsJudgeFault plan modules report (Log number) =
    (end : JournalState) × HoldsToGuests plan modules report end
    × IsFirstPart report (HasItsLog (course_of plan modules report end)) number
IsJudgeFault plan modules report (Replay number) =
    (end : JournalState) × HoldsToLogs plan modules report end
    × IsFirstPart report (HasItsReplay (course_of plan modules report end)) number
IsJudgeFault plan modules report (Steps number) =
    (end : JournalState) × HoldsToReplays plan modules report end
    × IsFirstPart report (HasItsSteps (course_of plan modules report end)) number
IsJudgeFault plan modules report Memory = ⊤
