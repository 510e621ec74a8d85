use Rattle.cfi_report.proofs.LawLemmas.{same_fault}
use Rattle.cfi_report.proofs.laws.one_first_fault.Goals as goal

pub returns : goal.returns
returns c = same_fault
