use Rattle.cfi_verify.proofs.UniqueLemmas.{one_fault}
use Rattle.cfi_verify.proofs.laws.one_first_fault.Goals as goal

pub returns : goal.returns
returns c = one_fault
