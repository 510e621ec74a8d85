use Rattle.cfi_model.proofs.CanLemmas.{code, can_run}
use Rattle.cfi_model.proofs.laws.some_unit_can_run.Goals as goal

pub returns : goal.returns
returns c = λ policy most. (code, can_run policy most)
