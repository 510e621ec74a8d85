-- What is said of a report of a file's run, and why it is refused.
use Rattle.std.specs.Prelude.{◌≡◌, ◌≢◌, ◌⊎◌, ℕ, true, false, List, [], ◌∷◌, ◌++◌, codes, Ok}
use Rattle.cfi_aux.specs.declared.modules.Module.{Module}
use Rattle.cfi_bare.specs.declared.fault.BareFault.TheVariants as bare_faults
use Rattle.cfi_bare.specs.File.{IsBareFault}
use Rattle.cfi_plan.specs.declared.plan.Plan.{Plan as ModulePlan}
use Rattle.cfi_plan.specs.Reading.{plan_in}
use Rattle.cfi_commands.specs.declared.judge.ReportPart.{ReportPart}
use Rattle.cfi_commands.specs.declared.judge.ReportPart.TheVariants as parts
use Rattle.cfi_commands.specs.declared.refusal.Refusal.{Refusal}
use Rattle.cfi_commands.specs.declared.refusal.Refusal.TheVariants.{Bare, Plan, Report, Judge}
use Rattle.cfi_judge.specs.declared.fault.JudgeFault.{JudgeFault}
use Rattle.cfi_judge.specs.declared.fault.JudgeFault.TheVariants as faults
use Rattle.cfi_judge.specs.Judge.{IsJudgeFault}
use Rattle.cfi_report.specs.Report.{IsReport, IsFirstFaultyLine, report_text}
use Rattle.cfi_report.specs.declared.report.Report.{Report as RunReport}
use Rattle.cfi_request.specs.Plans.{begins_as_plan, files_of}
use Rattle.cfi_valid.specs.Valid.{IsValidReport}
use Rattle.cfi_top.specs.Opening.{IsNoPlan, IsNamedBad}
use Rattle.cfi_top.specs.Running.{IsPlanOf}

-- of the files behind a file of these bytes the last has this text, the others are those of its plan's modules, and P
-- holds of the plan, its modules and the text
pub record IsJudgement (P : ModulePlan → List Module → (text : List ℕ) → Type 0) (bytes : List ℕ)
    (others : List (List ℕ)) : Type 0 where
  pub files : List (List ℕ)
  pub text : List ℕ
  pub split : others ≡ files ++ text ∷ []
  pub plan : ModulePlan
  pub modules : List Module
  pub plan_of : IsPlanOf bytes files plan modules
  pub says : P plan modules text

-- ---- what is said of one that is valid

-- what is printed then
abbrev pub valid_line : List ℕ
valid_line = codes "valid\n"

-- the text is that of a report, which is valid for the plan and its modules
pub record IsValidText (plan : ModulePlan) (modules : List Module) (text : List ℕ) : Type 0 where
  pub report : RunReport
  pub is : IsReport report
  pub spelled : text ≡ report_text report
  pub valid : IsValidReport plan modules report

-- the last of the files behind a file is a valid report of its plan and modules, and so it is said
abbrev pub IsJudged : (bytes : List ℕ) → (others : List (List ℕ)) → (said : List ℕ) → Type 0
IsJudged bytes others said = (said ≡ valid_line) × IsJudgement IsValidText bytes others

-- ---- why one is refused

-- the fault that a refusal tells by a part
abbrev pub fault_of : ReportPart → JudgeFault
fault_of parts.Modules = faults.Modules
fault_of (parts.Journal line) = faults.Journal line
fault_of parts.Script = faults.Script
fault_of parts.Guests = faults.Guests
fault_of (parts.Log guest) = faults.Log guest
fault_of (parts.Replay guest) = faults.Replay guest
fault_of (parts.Steps guest) = faults.Steps guest

-- the text is that of a report, which is not valid for the plan and its modules, and of which this is the first part
-- that is not
pub record IsPartAtFault (plan : ModulePlan) (modules : List Module) (text : List ℕ) (part : ReportPart)
    : Type 0 where
  pub report : RunReport
  pub is : IsReport report
  pub spelled : text ≡ report_text report
  pub invalid : ¬ IsValidReport plan modules report
  pub first : IsJudgeFault plan modules report (fault_of part)

-- why the file of a report is refused that has this text, and the file that is at fault: it is none from a line on, or
-- is not valid for the plan and its modules
abbrev pub RefusesReport : (report : List ℕ) → ModulePlan → List Module → (text : List ℕ) → (name : List ℕ) → Refusal
    → Type 0
RefusesReport report plan modules text name (Report line) = (name ≡ report) × IsFirstFaultyLine text line
RefusesReport report plan modules text name (Judge part) = (name ≡ report) × IsPartAtFault plan modules text part
RefusesReport report plan modules text name refusal = ⊥

-- the bytes are a plan, of the files behind it the last is the report, and of the others one is no module, the first of
-- them
pub record IsBadBehind (bytes : List ℕ) (others : List (List ℕ)) (name : List ℕ) (refusal : Refusal) : Type 0 where
  pub files : List (List ℕ)
  pub text : List ℕ
  pub split : others ≡ files ++ text ∷ []
  pub plan : ModulePlan
  pub begins : begins_as_plan bytes ≡ true
  pub is : plan_in bytes ≡ Ok plan
  pub bad : IsNamedBad (files_of plan) files name refusal

-- why a file, or the files behind it, are refused where a report of its run is judged, and the file that is at fault:
-- first the file itself, then those of its modules, then the report
abbrev pub RefusesJudging : (input report bytes : List ℕ) → (others : List (List ℕ)) → (name : List ℕ) → Refusal
    → Type 0
RefusesJudging input report bytes others name (Plan fault) =
    (begins_as_plan bytes ≡ true) × IsNoPlan input bytes name fault
RefusesJudging input report bytes others name (Bare fault) =
    (begins_as_plan bytes ≡ false) × (name ≡ input) × IsBareFault bytes fault × (fault ≢ bare_faults.Memory)
RefusesJudging input report bytes others name refusal = IsBadBehind bytes others name refusal
    ⊎ IsJudgement (λ plan modules text. RefusesReport report plan modules text name refusal) bytes others
