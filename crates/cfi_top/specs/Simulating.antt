-- What is said of a simulation, and why there is none.
use Rattle.std.specs.Prelude.{◌≡◌, ℕ, List, [], ◌∷◌, ◌++◌, Ok}
use Rattle.cfi_aux.specs.declared.modules.Module.{Module}
use Rattle.cfi_plan.specs.declared.plan.Plan.{Plan as ModulePlan}
use Rattle.cfi_plan.specs.Reading.{plan_in}
use Rattle.cfi_commands.specs.declared.refusal.Refusal.{Refusal}
use Rattle.cfi_commands.specs.declared.refusal.Refusal.TheVariants.{Plan, Sim}
use Rattle.cfi_commands.specs.Modules.{AreModuleFiles}
use Rattle.cfi_request.specs.Plans.{files_of}
use Rattle.cfi_sim.specs.declared.fault.SimFault.TheVariants.{Open, BadEvent}
use Rattle.cfi_sim.specs.declared.report.SimReport.{SimReport}
use Rattle.cfi_sim.specs.Fault.{IsSimFault}
use Rattle.cfi_sim.specs.Text.{sim_text}
use Rattle.cfi_sim.specs.Valid.{IsValidSim}
use Rattle.cfi_top.specs.Opening.{IsNoPlan, RefusesModules, RefusesOpening}

-- the files are modules, and the text is that of a valid simulation of the plan with these modules by this schedule
pub record IsSimText (plan : ModulePlan) (files : List (List ℕ)) (schedule text : List ℕ) : Type 0 where
  pub modules : List Module
  pub are : AreModuleFiles files modules
  pub sim : SimReport
  pub valid : IsValidSim plan modules schedule sim
  pub spelled : text ≡ sim_text sim

-- the bytes are a plan; of the files behind it the last is the schedule, the others are those of its modules, and P
-- holds of them
pub record IsSimulation (P : ModulePlan → (files : List (List ℕ)) → (schedule : List ℕ) → Type 0) (bytes : List ℕ)
    (others : List (List ℕ)) : Type 0 where
  pub plan : ModulePlan
  pub is : plan_in bytes ≡ Ok plan
  pub files : List (List ℕ)
  pub schedule : List ℕ
  pub split : others ≡ files ++ schedule ∷ []
  pub says : P plan files schedule

-- the text is that of a valid simulation of what these files are
abbrev pub IsSimOfPlan : (bytes : List ℕ) → (others : List (List ℕ)) → (text : List ℕ) → Type 0
IsSimOfPlan bytes others text = IsSimulation (λ plan files schedule. IsSimText plan files schedule text) bytes others

-- ---- why there is none

-- a plan with its modules, or a schedule of these bytes, is refused: the plan cannot be opened, or a line has no event
abbrev pub RefusesSim : (plan schedule : List ℕ) → ModulePlan → (bytes : List ℕ) → List Module → (name : List ℕ)
    → Refusal → Type 0
RefusesSim plan schedule found bytes modules name (Sim line) =
    (name ≡ schedule) × IsSimFault found modules bytes (BadEvent line)
RefusesSim plan schedule found bytes modules name refusal =
    RefusesOpening (λ fault. IsSimFault found modules bytes (Open fault)) plan (files_of found) name refusal

-- the same, or one of the files is no module
abbrev pub RefusesSimOf : (plan schedule : List ℕ) → ModulePlan → (files : List (List ℕ)) → (bytes : List ℕ)
    → (name : List ℕ) → Refusal → Type 0
RefusesSimOf plan schedule found files bytes name refusal =
    RefusesModules (RefusesSim plan schedule found bytes) (files_of found) files name refusal

-- why the bytes of a plan, or the files behind it, are refused, and the file that is at fault
abbrev pub RefusesSimulation : (plan schedule bytes : List ℕ) → (others : List (List ℕ)) → (name : List ℕ) → Refusal
    → Type 0
RefusesSimulation plan schedule bytes others name (Plan fault) = IsNoPlan plan bytes name fault
RefusesSimulation plan schedule bytes others name refusal =
    IsSimulation (λ found files text. RefusesSimOf plan schedule found files text name refusal) bytes others
