use Rattle.cfi_model.proofs.ClosedLemmas.{image_of, closed}
use Rattle.cfi_model.proofs.laws.some_image_is_closed.Goals as goal

pub returns : goal.returns
returns c = λ code_words size. (image_of code_words, closed code_words size)
