-- What a fault says.
use Rattle.std.specs.Prelude.{⊤}
use Rattle.cfi_ledger.specs.declared.fault.StartFault.{StartFault}
use Rattle.cfi_ledger.specs.declared.fault.StartFault.TheVariants.{Open}
use Rattle.cfi_ledger.specs.declared.fault.StartFault.TheVariants as starts
use Rattle.cfi_judge.specs.declared.fault.JudgeFault.{JudgeFault}
use Rattle.cfi_judge.specs.declared.fault.JudgeFault.TheVariants.{Modules}
use Rattle.cfi_judge.specs.declared.fault.JudgeFault.TheVariants as judges
use Rattle.cfi_judge.specs.declared.fault.LineFault.{LineFault}
use Rattle.cfi_judge.specs.declared.fault.LineFault.TheVariants.{Illegal, Memory}

-- the fault of a report of a plan that is not started for this one
abbrev pub start_fault : StartFault → JudgeFault
start_fault (Open fault) = Modules
start_fault starts.Memory = judges.Memory

-- what makes a line legal does not hold; want of memory says nothing of it
abbrev pub Refutes : Type 0 → LineFault → Type 0
Refutes P Illegal = ¬ P
Refutes P Memory = ⊤
