use Rattle.cfi_made_law.proofs.AsmWholeLemmas.{assembled-whole}
use Rattle.cfi_made_law.proofs.laws.assembled_are_whole.Goals as goal

pub returns : goal.returns
returns c text object short is = assembled-whole text object short is
