use Rattle.cfi_model_law.proofs.ForceLemmas.{held}
use Rattle.cfi_model_law.proofs.laws.tries_hold_policies.Goals as goal

pub returns : goal.returns
returns c = held
