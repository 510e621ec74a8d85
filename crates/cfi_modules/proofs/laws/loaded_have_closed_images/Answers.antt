use Rattle.cfi_modules.proofs.ImageLemmas.{closed}
use Rattle.cfi_modules.proofs.laws.loaded_have_closed_images.Goals as goal

pub returns : goal.returns
returns c = closed
