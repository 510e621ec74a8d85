use Rattle.cfi_model_law.proofs.RunLemmas.{runs_ready}
use Rattle.cfi_model_law.proofs.laws.runs_stay_ready.Goals as goal

pub returns : goal.returns
returns c = λ h code known ends old new ready runs. runs_ready h code known ends old new ready runs
