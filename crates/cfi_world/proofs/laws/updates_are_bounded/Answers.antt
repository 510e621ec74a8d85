use Rattle.cfi_world.proofs.BoundLemmas.{updates_are_bounded as bounds_hold}
use Rattle.cfi_world.proofs.laws.updates_are_bounded.Goals as goal

pub returns : goal.returns
returns c = bounds_hold
