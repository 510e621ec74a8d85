use Rattle.cfi_slips.proofs.KeptLemmas.{opening_kept}
use Rattle.cfi_slips.proofs.pad.Pad.new.Goals as goal

pub of_words-requires : goal.of_words-requires
of_words-requires c = opening_kept
