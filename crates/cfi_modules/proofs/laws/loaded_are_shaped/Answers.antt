use Rattle.cfi_modules.proofs.ShapedLemmas.{shaped}
use Rattle.cfi_modules.proofs.laws.loaded_are_shaped.Goals as goal

pub returns : goal.returns
returns c = shaped
