use Rattle.cfi_modules.proofs.GraphLemmas.{are_loaded}
use Rattle.cfi_modules.proofs.laws.series_are_loaded.Goals as goal

pub returns : goal.returns
returns c = are_loaded
