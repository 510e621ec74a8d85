use Rattle.cfi_instr_law.proofs.ProperLemmas.{instrumented}
use Rattle.cfi_instr_law.proofs.laws.instrumented_are_proper.Goals as goal

pub returns : goal.returns
returns c = instrumented
