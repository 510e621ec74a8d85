-- What a run has come to: its report, which is valid for its plan and its modules, and how each of its guests has run.
use Rattle.std.specs.Prelude.{◌≡◌, ◌≢◌, ℕ, true, List, All, Option, Some, None, slice_get, ⊤}
use Rattle.cfi_aux.specs.declared.modules.Module.{Module}
use Rattle.cfi_loader.specs.Epochs.{HavePoliciesOf}
use Rattle.cfi_model.specs.History.{History}
use Rattle.cfi_model.specs.Words.{Tables}
use Rattle.cfi_guest_part.specs.Ran.{IsHistoryOf, IsRunOf}
use Rattle.cfi_plan.specs.declared.plan.Plan.{Plan}
use Rattle.cfi_plan.specs.declared.plan.PlanModule.{PlanModule}
use Rattle.cfi_report.specs.Report.{IsReport}
use Rattle.cfi_report.specs.declared.report.GuestPart.{GuestPart}
use Rattle.cfi_report.specs.declared.report.Report.{Report}
use Rattle.cfi_slips.specs.Lines.{lines_of}
use Rattle.cfi_text.specs.Names.{is_name}
use Rattle.cfi_valid.specs.Valid.{IsValidReport, course_of}
use Rattle.cfi_guest_run.specs.Answered.{AreAnswered}
use Rattle.cfi_guest_run.specs.Runner.{Ran}

-- a run that was concluded: its plan, the modules of that, and its report
pub record Conclusion : Type 0 where
  pub plan : Plan
  pub modules : List Module
  pub report : Report

-- a conclusion, of its parts
abbrev pub conclusion_of : Plan → List Module → Report → Conclusion
conclusion_of plan modules report = record { plan = plan; modules = modules; report = report }

-- the names of a plan are names
pub record HasReadableNames (plan : Plan) : Type 0 where
  pub modules : All (λ (one : PlanModule). is_name one.name ≡ true) plan.modules
  pub guests : All (λ entry. is_name entry ≡ true) plan.guests

-- The report is valid. The tables had one entry an epoch, with the policies that the report's journal puts in force.
-- Each guest has run over their one history, under the policies of its epochs, and its part tells of that. The
-- journal's lines in each guest's name are those of its logged opens. The report can be read from its text, where the
-- plan's names are names.
pub record IsConcluded (c : Conclusion) : Type 0 where
  pub valid : IsValidReport c.plan c.modules c.report
  pub tables : Tables
  pub epochs : HavePoliciesOf c.report.journal tables.entries
  pub history : History
  pub code : List ℕ
  pub of : IsHistoryOf (course_of c.plan c.modules c.report valid.end) tables history code
  pub runs : (number : ℕ) (part : GuestPart) → slice_get c.report.guests number ≡ Some part
      → IsRunOf (course_of c.plan c.modules c.report valid.end) tables history code number part
  pub opens : (number : ℕ) (part : GuestPart) → slice_get c.report.guests number ≡ Some part
      → AreAnswered part.log (lines_of number c.report.journal)
  pub readable : HasReadableNames c.plan → IsReport c.report

-- the runner of this number is that of the guest of this number, which has stopped
abbrev pub IsEndedRun : (number : ℕ) → Option Ran → Type 0
IsEndedRun number None = ⊤
IsEndedRun number (Some ran) = (ran.pass.guest ≡ number) × (ran.guest.base.stop ≢ None)
