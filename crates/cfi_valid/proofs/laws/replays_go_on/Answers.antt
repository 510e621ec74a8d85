use Rattle.cfi_valid.proofs.RunningLemmas.{replay_goes_on}
use Rattle.cfi_valid.proofs.laws.replays_go_on.Goals as goal

pub returns : goal.returns
returns c = replay_goes_on
