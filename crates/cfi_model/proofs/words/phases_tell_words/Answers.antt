use Rattle.cfi_model.proofs.PhaseLemmas.{phase_words, store_same, store_new, rank_same}
use Rattle.cfi_model.proofs.words.phases_tell_words.Goals as goal

pub returns-clause-phases : goal.returns-clause-phases
returns-clause-phases c = phase_words

pub returns-clause-same : goal.returns-clause-same
returns-clause-same c = store_same

pub returns-clause-new : goal.returns-clause-new
returns-clause-new c = store_new

pub returns-clause-order : goal.returns-clause-order
returns-clause-order c = rank_same
