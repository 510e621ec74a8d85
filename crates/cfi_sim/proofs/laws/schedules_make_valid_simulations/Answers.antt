use Rattle.cfi_sim.proofs.EndLemmas.{valid}
use Rattle.cfi_sim.proofs.laws.schedules_make_valid_simulations.Goals as goal

pub returns : goal.returns
returns c = valid
