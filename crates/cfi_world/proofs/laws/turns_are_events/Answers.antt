use Rattle.cfi_world.proofs.SharedLemmas.{turn_makes}
use Rattle.cfi_world.proofs.laws.turns_are_events.Goals as goal

pub returns : goal.returns
returns c = turn_makes
