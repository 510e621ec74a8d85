-- The faults of a plan, in words: the fault and its line.
use Rattle.std.specs.Prelude.{ℕ, List, ◌++◌, codes}
use Rattle.std.specs.Fmt.{decimal}
use Rattle.cfi_plan.specs.declared.fault.PlanFault.{PlanFault}
use Rattle.cfi_plan.specs.declared.fault.PlanFault.TheVariants.{Syntax, Limit, NoGuest, Memory}

-- want of memory is no refusal, and has a name for completeness alone
abbrev pub plan_text : PlanFault → List ℕ
plan_text (Syntax line) = codes "Syntax " ++ decimal line
plan_text (Limit line) = codes "Limit " ++ decimal line
plan_text NoGuest = codes "NoGuest"
plan_text Memory = codes "Memory"
