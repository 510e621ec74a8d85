use Rattle.cfi_world.proofs.WorldLemmas.{stays_a_world}
use Rattle.cfi_world.proofs.OpeningLemmas.{opened_is}
use Rattle.cfi_world.proofs.laws.a_world_stays.Goals as goal

pub returns-clause-opens : goal.returns-clause-opens
returns-clause-opens c = opened_is

pub returns-clause-stays : goal.returns-clause-stays
returns-clause-stays c = stays_a_world
