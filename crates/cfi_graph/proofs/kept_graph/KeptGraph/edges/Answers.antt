use Rattle.std.proofs.Common.{sym, subst}
use Rattle.cfi_graph.specs.KeptGraph.{Graph, IsGraphOf, SpanEdges}
use Rattle.cfi_graph.proofs.KeptGraphLemmas.{span_edges}
use Rattle.cfi_graph.proofs.kept_graph.KeptGraph.edges.Goals as goal

pub returns-clause-spans : goal.returns-clause-spans
returns-clause-spans c = λ ms have is.
    let inside = c.self.inside in
    let graph : Graph = record { classes = inside.classes; wider = inside.wider.items; flow = inside.flow } in
    subst (λ es. SpanEdges ms es) (sym c.edges.ensures.value)
    (span_edges ms have graph (subst (IsGraphOf ms) (sym c.self.view_is) is) c.edges.ensures.spans)
