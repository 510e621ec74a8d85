use Rattle.cfi_model_law.proofs.InForceLemmas.{in_force_run}
use Rattle.cfi_model_law.proofs.laws.checks_ask_in_force.Goals as goal

pub returns : goal.returns
returns c = in_force_run
