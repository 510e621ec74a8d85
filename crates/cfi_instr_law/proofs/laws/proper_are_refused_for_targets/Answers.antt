use Rattle.cfi_instr_law.proofs.ProperLemmas.{refused}
use Rattle.cfi_instr_law.proofs.laws.proper_are_refused_for_targets.Goals as goal

pub returns : goal.returns
returns c = refused
