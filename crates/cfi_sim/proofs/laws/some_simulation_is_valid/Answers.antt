use Rattle.cfi_sim.proofs.ExampleLemmas.{valid}
use Rattle.cfi_sim.proofs.laws.some_simulation_is_valid.Goals as goal

pub returns : goal.returns
returns c = valid
