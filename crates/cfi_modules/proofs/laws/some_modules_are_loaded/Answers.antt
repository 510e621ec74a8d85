use Rattle.cfi_modules.proofs.OneLemmas.{one}
use Rattle.cfi_modules.proofs.laws.some_modules_are_loaded.Goals as goal

pub returns : goal.returns
returns c = one
