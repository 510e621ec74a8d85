use Rattle.cfi_sim.proofs.SimOnce.{one, none}
use Rattle.cfi_sim.proofs.laws.simulations_are_one.Goals as goal

pub returns-clause-one : goal.returns-clause-one
returns-clause-one c = one

pub returns-clause-none : goal.returns-clause-none
returns-clause-none c = none
