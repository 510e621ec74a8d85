use Rattle.std.proofs.Common.{refl}
use Rattle.cfi_model.proofs.CanLemmas.{reply, asking, can_end}
use Rattle.cfi_model.proofs.laws.some_open_can_end.Goals as goal

pub returns : goal.returns
returns c = λ policy most. (reply policy, refl, asking, can_end policy most)
