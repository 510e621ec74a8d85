-- Valid reports: what a report has to say of a run of a plan and its modules, which come one a module line, in order.
-- It is a relation between the three, and looks into no run. It has seven parts: modules, journal, script, guests,
-- replay, log and steps. Each decides on its own: the modules by those lines of the journal alone that say that one was
-- loaded or retired, the journal by its lines, the script by who asked; and each guest by what it says, against the
-- modules and the force.
use Rattle.std.specs.Prelude.{◌≡◌, ℕ, List, length, slice_get, Some}
use Rattle.cfi_aux.specs.declared.modules.Module.{Module}
use Rattle.cfi_plan.specs.declared.plan.Plan.{Plan}
use Rattle.cfi_report.specs.declared.report.GuestPart.{GuestPart}
use Rattle.cfi_report.specs.declared.report.Report.{Report}
use Rattle.cfi_valid.specs.Course.{Course, IsCourse}
use Rattle.cfi_valid.specs.Journal.{JournalState}
use Rattle.cfi_valid.specs.Log.{IsLogged}
use Rattle.cfi_valid.specs.Modules.{HasModules}
use Rattle.cfi_valid.specs.Parts.{IsPartOf, HasEndedReplay, FitsEndedSteps}
use Rattle.cfi_valid.specs.Script.{script_calls, made_by_script}

-- what the guests of a report are judged against
abbrev pub course_of : Plan → List Module → Report → JournalState → Course
course_of plan modules report end = record { plan = plan; modules = modules; journal = report.journal; end = end }

-- ---- the parts that speak of the whole

-- each line of the journal is legal where it stands, and the force is that of the state to which they lead
pub record HasJournal (plan : Plan) (modules : List Module) (report : Report) (end : JournalState) : Type 0 where
  pub course : IsCourse (course_of plan modules report end)
  pub epoch : report.epoch ≡ end.epoch
  pub policy : report.policy ≡ end.policy

-- the lines for which the script asked are those of its calls, in its order
abbrev pub HasScript : Plan → Report → Type 0
HasScript plan report = made_by_script report.journal ≡ script_calls plan.script

-- something holds of each guest, by its number
abbrev pub OfEach : Report → ((number : ℕ) → GuestPart → Type 0) → Type 0
OfEach report Holds = (number : ℕ) (part : GuestPart) → slice_get report.guests number ≡ Some part → Holds number part

-- the guests are those of the plan, in its order
pub record HasGuests (c : Course) (report : Report) : Type 0 where
  pub count : length report.guests ≡ length c.plan.guests
  pub parts : OfEach report (IsPartOf c)

-- ---- all of them

-- `end` has the force and the modules
pub record IsValidReport (plan : Plan) (modules : List Module) (report : Report) : Type 0 where
  pub end : JournalState
  pub listed : HasModules plan modules report end.loaded
  pub journal : HasJournal plan modules report end
  pub script : HasScript plan report
  pub guests : HasGuests (course_of plan modules report end) report
  pub replay : OfEach report (λ number part. HasEndedReplay (course_of plan modules report end) part)
  pub log : OfEach report (λ number part. IsLogged (course_of plan modules report end) number part.log)
  pub steps : OfEach report (λ number part. FitsEndedSteps (course_of plan modules report end) part)

-- all that these say of one guest
pub record IsEnded (c : Course) (number : ℕ) (part : GuestPart) : Type 0 where
  pub guest : IsPartOf c number part
  pub replay : HasEndedReplay c part
  pub log : IsLogged c number part.log
  pub steps : FitsEndedSteps c part
