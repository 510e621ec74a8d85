-- Reports of plans and of bare files, judged.
use Rattle.std.specs.Prelude.{◌≡◌, ℕ, List, [], ◌∷◌, codes}
use Rattle.cfi_aux.specs.declared.modules.Module.{Module}
use Rattle.cfi_guest_run.specs.Concluded.{Conclusion, IsConcluded}
use Rattle.cfi_io.specs.Files.{Files}
use Rattle.cfi_plan.specs.declared.plan.Plan.{Plan as ModulePlan}
use Rattle.cfi_report.specs.declared.report.Report.{Report as RunReport}
use Rattle.cfi_report.specs.Report.{IsReport, report_text}
use Rattle.cfi_request.specs.Plans.{run_files}
use Rattle.cfi_request.specs.Words.{IsOperand}
use Rattle.cfi_top.specs.Running.{IsPlanOf}
use Rattle.cfi_top.specs.Top.{AreHeld, IsValid}

-- of the files that a shelf tells, each short enough to be read, one is a plan, with its modules' files, or a bare file,
-- and another has the text of a report of which this is so
pub record HoldsReport (Says : ModulePlan → List Module → RunReport → Type 0) (told : Files) (input report : List ℕ)
    : Type 0 where
  pub bytes : List ℕ
  pub file : AreHeld told (input ∷ []) (bytes ∷ [])
  pub files : List (List ℕ)
  pub named : AreHeld told (run_files bytes) files
  pub plan : ModulePlan
  pub modules : List Module
  pub plan_of : IsPlanOf bytes files plan modules
  pub value : RunReport
  pub is : IsReport value
  pub says : Says plan modules value
  pub printed : AreHeld told (report ∷ []) (report_text value ∷ [])

-- it is that of a run of the plan and its modules, which was concluded
pub record IsOfRun (plan : ModulePlan) (modules : List Module) (report : RunReport) : Type 0 where
  pub run : Conclusion
  pub concluded : IsConcluded run
  pub plan_is : run.plan ≡ plan
  pub modules_are : run.modules ≡ modules
  pub report_is : run.report ≡ report

-- to judge one of which this is so is valid input
abbrev pub AreJudgedValid : (Says : ModulePlan → List Module → RunReport → Type 0) → Type 0
AreJudgedValid Says =
    (told : Files) (input report : List ℕ) → IsOperand input → IsOperand report → HoldsReport Says told input report
    → IsValid (codes "judge" ∷ input ∷ report ∷ []) told
