-- What a run has come to, and why there is none.
use Rattle.std.specs.Prelude.{◌≡◌, ◌≢◌, ◌⊎◌, ℕ, true, false, List, [], ◌∷◌, Ok, ⊤}
use Rattle.cfi_aux.specs.declared.modules.Module.{Module}
use Rattle.cfi_bare.specs.declared.fault.BareFault.TheVariants as bare_faults
use Rattle.cfi_bare.specs.File.{IsBareFile, IsBareFault}
use Rattle.cfi_plan.specs.declared.plan.Plan.{Plan as ModulePlan}
use Rattle.cfi_plan.specs.Bare.{bare_plan}
use Rattle.cfi_plan.specs.Reading.{plan_in}
use Rattle.cfi_commands.specs.declared.refusal.Refusal.{Refusal}
use Rattle.cfi_commands.specs.declared.refusal.Refusal.TheVariants.{Bare, Plan}
use Rattle.cfi_commands.specs.Modules.{AreModuleFiles}
use Rattle.cfi_guest_run.specs.Concluded.{Conclusion, IsConcluded}
use Rattle.cfi_ledger.specs.Opening.{IsOpenFault}
use Rattle.cfi_request.specs.declared.command.Command.{Command}
use Rattle.cfi_request.specs.declared.command.Command.TheVariants as commands
use Rattle.cfi_request.specs.Plans.{begins_as_plan, files_of}
use Rattle.cfi_report.specs.Report.{IsReport}
use Rattle.cfi_top.specs.Opening.{IsNoPlan, RefusesModules, RefusesOpening}

-- the commands that run guests
abbrev pub RunsGuests : Command → Type 0
RunsGuests (commands.Run input) = ⊤
RunsGuests (commands.Gen seed count) = ⊤
RunsGuests command = ⊥

-- ---- what it has come to

-- the bytes are a plan, and the modules are those of its modules' files
pub record IsPlanFile (bytes : List ℕ) (files : List (List ℕ)) (plan : ModulePlan) (modules : List Module) : Type 0 where
  pub begins : begins_as_plan bytes ≡ true
  pub is : plan_in bytes ≡ Ok plan
  pub are : AreModuleFiles files modules

-- the bytes are a bare file, which stands for one plan and its one module
pub record IsBarePlan (bytes : List ℕ) (plan : ModulePlan) (modules : List Module) : Type 0 where
  pub begins : begins_as_plan bytes ≡ false
  pub plan_is : plan ≡ bare_plan
  pub made : Module
  pub is : IsBareFile bytes made
  pub modules_are : modules ≡ made ∷ []

-- the plan and the modules of a file, whose modules' files these are
abbrev pub IsPlanOf : (bytes : List ℕ) → (files : List (List ℕ)) → ModulePlan → List Module → Type 0
IsPlanOf bytes files plan modules = IsPlanFile bytes files plan modules ⊎ IsBarePlan bytes plan modules

-- the run is one of the file's plan and modules, which was concluded, and its report is read from its text
pub record IsRunOfFile (bytes : List ℕ) (files : List (List ℕ)) (run : Conclusion) : Type 0 where
  pub plan_of : IsPlanOf bytes files run.plan run.modules
  pub concluded : IsConcluded run
  pub readable : IsReport run.report

-- ---- why there is none

-- the plan, whose modules' files have these names, cannot be opened with these modules
abbrev pub RefusesStart : (input : List ℕ) → (names : List (List ℕ)) → ModulePlan → List Module → (name : List ℕ)
    → Refusal → Type 0
RefusesStart input names plan modules name refusal =
    RefusesOpening (IsOpenFault plan modules) input names name refusal

-- the same, or one of the files is no module
abbrev pub RefusesRunOf : (input : List ℕ) → ModulePlan → (files : List (List ℕ)) → (name : List ℕ) → Refusal → Type 0
RefusesRunOf input plan files name refusal =
    RefusesModules (RefusesStart input (files_of plan) plan) (files_of plan) files name refusal

-- the bytes are no plan, or one that is refused, with its modules' files
abbrev pub RefusesPlanFile : (input bytes : List ℕ) → (files : List (List ℕ)) → (name : List ℕ) → Refusal → Type 0
RefusesPlanFile input bytes files name (Plan fault) = IsNoPlan input bytes name fault
RefusesPlanFile input bytes files name refusal =
    (plan : ModulePlan) × (plan_in bytes ≡ Ok plan) × RefusesRunOf input plan files name refusal

-- the bytes are no bare file, or one whose module is refused
abbrev pub RefusesBareFile : (input bytes : List ℕ) → (name : List ℕ) → Refusal → Type 0
RefusesBareFile input bytes name (Bare fault) =
    (name ≡ input) × IsBareFault bytes fault × (fault ≢ bare_faults.Memory)
RefusesBareFile input bytes name refusal =
    (made : Module) × IsBareFile bytes made × RefusesStart input (input ∷ []) bare_plan (made ∷ []) name refusal

-- why a file that is to be run, or the files that it names, are refused, and the file that is at fault
abbrev pub RefusesRun : (input bytes : List ℕ) → (files : List (List ℕ)) → (name : List ℕ) → Refusal → Type 0
RefusesRun input bytes files name refusal =
    ((begins_as_plan bytes ≡ true) × RefusesPlanFile input bytes files name refusal)
    ⊎ ((begins_as_plan bytes ≡ false) × RefusesBareFile input bytes name refusal)
