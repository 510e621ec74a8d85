use Rattle.cfi_verify_law.proofs.JoinLemmas.{joins_or_faults}
use Rattle.cfi_verify_law.proofs.joining.joins_or_has_a_fault.Goals as goal

pub returns : goal.returns
returns c = joins_or_faults
