use Rattle.cfi_gen.proofs.SizeLemmas.{source_le}
use Rattle.cfi_gen.proofs.lengths.sources_are_short.Goals as goal

pub returns : goal.returns
returns c = source_le
