use Rattle.cfi_sim.proofs.ReachLemmas.{reach}
use Rattle.cfi_sim.proofs.laws.schedules_reach.Goals as goal

pub returns : goal.returns
returns c = reach
