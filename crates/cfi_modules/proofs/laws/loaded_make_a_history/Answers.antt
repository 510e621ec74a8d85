use Rattle.cfi_modules.proofs.GrowthLemmas.{history}
use Rattle.cfi_modules.proofs.laws.loaded_make_a_history.Goals as goal

pub returns : goal.returns
returns c = history
