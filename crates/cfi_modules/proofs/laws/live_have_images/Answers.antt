use Rattle.cfi_graph.specs.Live.{live_of}
use Rattle.cfi_modules.proofs.ImageLemmas.{live_image}
use Rattle.cfi_modules.proofs.LiveLemmas.{live_among}
use Rattle.cfi_modules.proofs.laws.live_have_images.Goals as goal

pub returns : goal.returns
returns c = λ code_words ms flags loaded graph.
    live_image code_words ms loaded (live_of ms flags) (live_among ms flags) (c.live_are_apart.ensures.graph ms flags graph)
