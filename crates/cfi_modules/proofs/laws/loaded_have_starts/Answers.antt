use Rattle.cfi_modules.proofs.ImageLemmas.{starts}
use Rattle.cfi_modules.proofs.laws.loaded_have_starts.Goals as goal

pub returns : goal.returns
returns c = starts
