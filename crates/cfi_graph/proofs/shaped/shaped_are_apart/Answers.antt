use Rattle.cfi_graph.proofs.ShapeLemmas.{apart}
use Rattle.cfi_graph.proofs.shaped.shaped_are_apart.Goals as goal

pub returns : goal.returns
returns c = apart
