use Rattle.cfi_graph.proofs.ImportLemmas.{one_target}
use Rattle.cfi_graph.proofs.laws.a_name_means_one_address.Goals as goal

pub returns : goal.returns
returns c = one_target
