use Rattle.cfi_made_law.proofs.AsmLemmas.{assembled-within}
use Rattle.cfi_made_law.proofs.laws.assembled_are_within_limits.Goals as goal

pub returns : goal.returns
returns c text object short is = assembled-within text object short is
