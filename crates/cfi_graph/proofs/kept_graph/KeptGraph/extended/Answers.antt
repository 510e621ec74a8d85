use Rattle.std.proofs.Common.{subst, IfOk}
use Rattle.cfi_graph.specs.KeptGraph.{Graph, IsLonger}
use Rattle.cfi_graph.proofs.kept_graph.KeptGraph.extended.Goals as goal

pub returns-clause-edges : goal.returns-clause-edges
returns-clause-edges c =
    subst (λ (g : Graph). IfOk c.grown.result (λ (graph : Graph). IsLonger g.flow.edges graph.flow.edges))
    c.in_ok-copied.ensures c.grown.ensures.edges
