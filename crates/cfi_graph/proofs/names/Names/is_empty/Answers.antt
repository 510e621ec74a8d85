use Rattle.cfi_graph.specs.inner.Names.{has_name}
use Rattle.cfi_graph.proofs.NameLemmas.{both_hold, no_keys}
use Rattle.cfi_graph.proofs.names.Names.is_empty.Goals as goal

pub returns : goal.returns
unfolding has_name
returns c = λ is name has. no_keys _ _ (c.is_empty.ensures.0 is) (both_hold _ _ has).1
