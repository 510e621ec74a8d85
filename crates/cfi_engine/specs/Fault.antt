-- Why a plan is not run.
use Rattle.std.specs.Prelude.{List, ⊤}
use Rattle.cfi_aux.specs.declared.modules.Module.{Module}
use Rattle.cfi_plan.specs.declared.plan.Plan.{Plan}
use Rattle.cfi_ledger.specs.Opening.{IsOpenFault}
use Rattle.cfi_engine.specs.declared.fault.RunFault.{RunFault}
use Rattle.cfi_engine.specs.declared.fault.RunFault.TheVariants.{Open, Memory}

-- the first fault of opening the plan
abbrev pub IsRunFault : Plan → List Module → RunFault → Type 0
IsRunFault plan modules (Open fault) = IsOpenFault plan modules fault
IsRunFault plan modules Memory = ⊤
