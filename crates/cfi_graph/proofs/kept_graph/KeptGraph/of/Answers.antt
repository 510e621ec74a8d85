use Rattle.std.proofs.Common.{◌+◌, sym, subst}
use Rattle.cfi_graph.specs.KeptGraph.{IsGraphOf}
use Rattle.cfi_graph.specs.Reading.{HaveGraph}
use Rattle.cfi_graph.proofs.OneMoreLemmas.{graph_take, next_taken}
use Rattle.cfi_graph.proofs.kept_graph.KeptGraph.of.Goals as goal

pub grown-requires-clause-graph : goal.grown-requires-clause-graph
grown-requires-clause-graph c =
    let ms = c.args.modules.now in
    let n = c.loop-number.number in
    subst HaveGraph (sym (next_taken ms n c.index-modules-number.result c.loop-number-test.true c.index-modules-number.is))
    (graph_take ms (n + 1) c.requires)

-- this turn's module is added
pub loop-number-preserved : goal.loop-number-preserved
loop-number-preserved c =
    subst (λ ms. IsGraphOf ms c.in_ok-graph-2.graph)
    (next_taken c.args.modules.now c.loop-number.number c.index-modules-number.result c.loop-number-test.true
    c.index-modules-number.is)
    c.in_ok-graph-2.ensures.is
