use Rattle.cfi_valid.proofs.PolicyLemmas.{image_allows}
use Rattle.cfi_valid.proofs.laws.images_are_policies.Goals as goal

pub returns : goal.returns
returns c = λ code_words ms live image loaded of slot address within aligned.
    image_allows code_words ms live image loaded of slot address within aligned
