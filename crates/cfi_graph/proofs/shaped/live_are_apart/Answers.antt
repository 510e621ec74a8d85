use Rattle.cfi_graph.proofs.LiveLemmas.{live_apart, live_graph}
use Rattle.cfi_graph.proofs.shaped.live_are_apart.Goals as goal

pub returns-clause-apart : goal.returns-clause-apart
returns-clause-apart c = live_apart

pub returns-clause-graph : goal.returns-clause-graph
returns-clause-graph c = live_graph
