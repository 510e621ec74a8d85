use Rattle.std.proofs.Common.{refl}
use Rattle.rv_guest.proofs.MayLemmas.{reply, asking, may_answer}
use Rattle.rv_guest.proofs.laws.some_answer_may_come.Goals as goal

pub returns : goal.returns
returns c = λ policy most. (asking, reply policy, refl, may_answer policy most)
