use Rattle.cfi_policy.proofs.WithinLemmas.{have_image}
use Rattle.cfi_policy.proofs.laws.low_modules_have_image.Goals as goal

pub returns : goal.returns
returns c = λ ms code_words graph ends slots. have_image ms graph code_words ends slots
