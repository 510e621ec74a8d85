use Rattle.rv_guest.proofs.MayLemmas.{may_load}
use Rattle.rv_guest.proofs.laws.each_word_may_come.Goals as goal

pub returns : goal.returns
returns c = may_load
