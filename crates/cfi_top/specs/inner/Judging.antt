-- What judging the text of a report comes to, and the answers to its faults.
use Rattle.std.specs.Prelude.{◌≡◌, ◌⊎◌, ℕ, List}
use Rattle.cfi_aux.specs.declared.modules.Module.{Module}
use Rattle.cfi_commands.specs.declared.refusal.Refusal.TheVariants as refusals
use Rattle.cfi_commands.specs.Modules.{AreModuleFiles}
use Rattle.cfi_plan.specs.declared.plan.Plan.{Plan}
use Rattle.cfi_report.specs.declared.fault.ReportFault.{ReportFault}
use Rattle.cfi_report.specs.declared.fault.ReportFault.TheVariants.{Syntax, Memory}
use Rattle.cfi_request.specs.Plans.{files_of}
use Rattle.cfi_top.specs.declared.answer.Answer.{Answer}
use Rattle.cfi_top.specs.declared.answer.Answer.TheVariants as answers
use Rattle.cfi_top.specs.Judging.{IsValidText, RefusesReport, valid_line}
use Rattle.cfi_top.specs.Opening.{IsNamedBad}

-- the answer to a text that is no report
abbrev pub IsReportRefused : (report : List ℕ) → ReportFault → Answer → Type 0
IsReportRefused report (Syntax line) answer = answer ≡ answers.Refused report (refusals.Report line)
IsReportRefused report Memory answer = ⊥

-- what judging a text comes to, against a plan and its modules
abbrev pub IsTextJudged : (report : List ℕ) → Plan → List Module → (text : List ℕ) → Answer → Type 0
IsTextJudged report plan modules text (answers.Print said) = (said ≡ valid_line) × IsValidText plan modules text
IsTextJudged report plan modules text (answers.Refused name refusal) =
    RefusesReport report plan modules text name refusal
IsTextJudged report plan modules text answer = ⊥

-- a file is no module
abbrev pub IsFileRefused : Plan → (files : List (List ℕ)) → Answer → Type 0
IsFileRefused plan files (answers.Refused name refusal) = IsNamedBad (files_of plan) files name refusal
IsFileRefused plan files answer = ⊥

-- the same against a plan and the modules of these files
abbrev pub IsFoundJudged : (report : List ℕ) → Plan → (files : List (List ℕ)) → (text : List ℕ) → Answer → Type 0
IsFoundJudged report plan files text answer =
    ((modules : List Module) × AreModuleFiles files modules × IsTextJudged report plan modules text answer)
    ⊎ IsFileRefused plan files answer
