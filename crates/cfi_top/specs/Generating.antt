-- What running drawn modules has come to, and why there is no run.
use Rattle.std.specs.Prelude.{◌≡◌, ◌⊎◌, ℕ, List, codes, slice_get, Some, Ok}
use Rattle.cfi_commands.specs.declared.fault.CommandFault.TheVariants.{File}
use Rattle.cfi_commands.specs.declared.refusal.Refusal.{Refusal}
use Rattle.cfi_commands.specs.Files.{IsFilesFault}
use Rattle.cfi_commands.specs.Modules.{AreModuleFiles}
use Rattle.cfi_gen.specs.Plan.{plan_text}
use Rattle.cfi_gen.specs.Source.{file_name}
use Rattle.cfi_guest_run.specs.Concluded.{Conclusion, IsConcluded}
use Rattle.cfi_gen.specs.Generated.{AreGenerated, IsFirstRefusedDrawn}
use Rattle.cfi_gen.specs.Measure.{IsMeasure}
use Rattle.cfi_request.specs.Plans.{files_of}
use Rattle.cfi_plan.specs.declared.plan.Plan.{Plan}
use Rattle.cfi_plan.specs.Reading.{plan_in}
use Rattle.cfi_report.specs.Report.{IsReport}
use Rattle.cfi_gen.specs.declared.summary_text.Measure.{Measure}
use Rattle.cfi_gen.specs.Summary.{summary_text}
use Rattle.cfi_top.specs.Running.{RefusesRunOf}

-- ---- what it has come to

-- The run is one of the plan of so many modules and of the modules that are drawn of the seed, as their files are read.
-- It was concluded, and its report is read from its text. The text is the summary of these modules and this report.
pub record IsGeneratedRun (seed count : ℕ) (run : Conclusion) (text : List ℕ) : Type 0 where
  pub files : List (List ℕ)
  pub generated : AreGenerated seed count files
  pub plan_is : plan_in (plan_text count) ≡ Ok run.plan
  pub modules_are : AreModuleFiles files run.modules
  pub concluded : IsConcluded run
  pub readable : IsReport run.report
  pub measure : Measure
  pub measured : IsMeasure run.plan.code_words files measure
  pub spelled : text ≡ summary_text seed count measure run.report

-- ---- why there is none

-- what a refusal calls the plan, which has no file
abbrev pub plan_name : List ℕ
plan_name = codes "plan"

-- of the drawn modules one has a source that is refused, the first of them, and this would be the name of its file
pub record IsRefusedDrawn (seed count : ℕ) (name : List ℕ) (refusal : Refusal) : Type 0 where
  pub number : ℕ
  pub named : name ≡ file_name number
  pub first : IsFirstRefusedDrawn seed count number refusal

-- the modules of the files do not place and verify in order, and the first that does not has a file of this name
pub record IsOutOfOrder (plan : Plan) (files : List (List ℕ)) (name : List ℕ) (refusal : Refusal) : Type 0 where
  pub number : ℕ
  pub named : slice_get (files_of plan) number ≡ Some name
  pub first : IsFilesFault plan.code_words files (File number refusal)

-- all drawn modules have files; these are out of order, or their plan cannot be opened
pub record AreRefusedFiles (seed count : ℕ) (name : List ℕ) (refusal : Refusal) : Type 0 where
  pub files : List (List ℕ)
  pub generated : AreGenerated seed count files
  pub plan : Plan
  pub is : plan_in (plan_text count) ≡ Ok plan
  pub why : IsOutOfOrder plan files name refusal ⊎ RefusesRunOf plan_name plan files name refusal

-- drawn modules, or the files made of them, are refused for this
abbrev pub RefusesGenerated : (seed count : ℕ) → (name : List ℕ) → Refusal → Type 0
RefusesGenerated seed count name refusal =
    IsRefusedDrawn seed count name refusal ⊎ AreRefusedFiles seed count name refusal
