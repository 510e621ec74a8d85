use Rattle.cfi_world.proofs.RunLemmas.{runs_are_steps}
use Rattle.cfi_world.proofs.laws.runs_are_steps.Goals as goal

pub returns : goal.returns
returns c = runs_are_steps
