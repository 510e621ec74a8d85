-- Why a plan is refused that is to be run or simulated, and the file that is at fault.
use Rattle.std.specs.Prelude.{◌≡◌, ◌≢◌, ◌⊎◌, ℕ, List, slice_get, Some, Err}
use Rattle.cfi_aux.specs.declared.modules.Module.{Module}
use Rattle.cfi_plan.specs.declared.fault.PlanFault.{PlanFault}
use Rattle.cfi_plan.specs.declared.fault.PlanFault.TheVariants as plan_faults
use Rattle.cfi_plan.specs.Reading.{plan_in}
use Rattle.cfi_commands.specs.declared.refusal.Refusal.{Refusal}
use Rattle.cfi_commands.specs.declared.refusal.Refusal.TheVariants.{Place, Verify, Entry}
use Rattle.cfi_commands.specs.Modules.{AreModuleFiles, IsFirstBadFile}
use Rattle.cfi_ledger.specs.declared.fault.OpenFault.{OpenFault}
use Rattle.cfi_ledger.specs.declared.fault.OpenFault.TheVariants as opens

-- the bytes are no plan, for this fault, and the file is the plan's
pub record IsNoPlan (plan bytes : List ℕ) (name : List ℕ) (fault : PlanFault) : Type 0 where
  pub named : name ≡ plan
  pub is : plan_in bytes ≡ Err fault
  pub some : fault ≢ plan_faults.Memory

-- of the files of these names one is no module, the first of them, and this is its name
pub record IsNamedBad (names files : List (List ℕ)) (name : List ℕ) (refusal : Refusal) : Type 0 where
  pub number : ℕ
  pub named : slice_get names number ≡ Some name
  pub first : IsFirstBadFile files number refusal

-- the files of these names are refused: one is no module, or they are modules that are refused as P says
abbrev pub RefusesModules : (P : List Module → (name : List ℕ) → Refusal → Type 0) → (names files : List (List ℕ))
    → (name : List ℕ) → Refusal → Type 0
RefusesModules P names files name refusal = IsNamedBad names files name refusal
    ⊎ ((modules : List Module) × AreModuleFiles files modules × P modules name refusal)

-- the plan has this fault of one of its modules, whose file has this name
pub record IsModuleFault (HasFault : OpenFault → Type 0) (names : List (List ℕ)) (name : List ℕ)
    (fault_of : (number : ℕ) → OpenFault) : Type 0 where
  pub number : ℕ
  pub named : slice_get names number ≡ Some name
  pub stands : HasFault (fault_of number)

-- a plan that cannot be opened is refused: the fault is of a module, whose file is at fault, or of a guest's entry, and
-- then the plan is; the files of its modules have these names
abbrev pub RefusesOpening : (HasFault : OpenFault → Type 0) → (plan : List ℕ) → (names : List (List ℕ))
    → (name : List ℕ) → Refusal → Type 0
RefusesOpening HasFault plan names name (Place fault) =
    IsModuleFault HasFault names name (λ number. opens.Place number fault)
RefusesOpening HasFault plan names name (Verify fault) =
    IsModuleFault HasFault names name (λ number. opens.Verify number fault)
RefusesOpening HasFault plan names name (Entry guest) = (name ≡ plan) × HasFault (opens.NoEntry guest)
RefusesOpening HasFault plan names name refusal = ⊥
