use Rattle.cfi_modules.proofs.ImageLemmas.{have_image}
use Rattle.cfi_modules.proofs.laws.loaded_have_image.Goals as goal

pub returns : goal.returns
returns c = have_image
