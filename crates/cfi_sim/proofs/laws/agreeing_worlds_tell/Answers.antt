use Rattle.cfi_sim.proofs.journal.TellLemmas.{tell}
use Rattle.cfi_sim.proofs.laws.agreeing_worlds_tell.Goals as goal

pub returns : goal.returns
returns c = tell
