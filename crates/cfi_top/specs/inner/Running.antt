-- What running the modules of a plan, or a bare file, comes to.
use Rattle.std.specs.Prelude.{◌≡◌, ℕ, List, [], ◌∷◌}
use Rattle.cfi_aux.specs.declared.modules.Module.{Module}
use Rattle.cfi_bare.specs.File.{IsBareFile}
use Rattle.cfi_plan.specs.declared.plan.Plan.{Plan}
use Rattle.cfi_plan.specs.Bare.{bare_plan}
use Rattle.cfi_commands.specs.Modules.{AreModuleFiles}
use Rattle.cfi_guest_run.specs.Concluded.{Conclusion, IsConcluded}
use Rattle.cfi_report.specs.Report.{report_text}
use Rattle.cfi_top.specs.declared.answer.Answer.{Answer}
use Rattle.cfi_top.specs.declared.answer.Answer.TheVariants as answers
use Rattle.cfi_top.specs.Running.{RefusesRunOf, RefusesBareFile}

-- the run of a plan was concluded, of whose modules P holds, and the text is its report's
pub record IsRunText (plan : Plan) (P : List Module → Type 0) (run : Conclusion) (text : List ℕ) : Type 0 where
  pub spelled : text ≡ report_text run.report
  pub concluded : IsConcluded run
  pub plan_is : run.plan ≡ plan
  pub modules_are : P run.modules

-- what running a plan with the modules of these files comes to
abbrev pub IsPlanRun : (input : List ℕ) → Plan → (files : List (List ℕ)) → Answer → Type 0
IsPlanRun input plan files (answers.Ran run text) = IsRunText plan (AreModuleFiles files) run text
IsPlanRun input plan files (answers.Refused name refusal) = RefusesRunOf input plan files name refusal
IsPlanRun input plan files answer = ⊥

-- the one module of a bare file
abbrev pub AreBare : (bytes : List ℕ) → List Module → Type 0
AreBare bytes modules = (made : Module) × IsBareFile bytes made × (modules ≡ made ∷ [])

-- what running a bare file comes to
abbrev pub IsBareRun : (input bytes : List ℕ) → Answer → Type 0
IsBareRun input bytes (answers.Ran run text) = IsRunText bare_plan (AreBare bytes) run text
IsBareRun input bytes (answers.Refused name refusal) = RefusesBareFile input bytes name refusal
IsBareRun input bytes answer = ⊥
