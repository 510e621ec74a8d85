use Rattle.std.proofs.Common.{◌*◌, ◌≤◌, length, arith}
use Rattle.cfi_flow.specs.Flow.{link_count}
use Rattle.cfi_flow.specs.Fans.{AreFewEdges}
use Rattle.cfi_graph.specs.Edges.{SpanDirectEdges, links_most}
use Rattle.cfi_values.proofs.ThenLemmas.{if_ok}
use Rattle.cfi_graph.proofs.direct.spanning.Goals as goal

pub returns-clause-edges : goal.returns-clause-edges
returns-clause-edges c =
    let goes = c.in_ok-flow.ensures.goes in
    if_ok c.few_edges.result (λ edges. AreFewEdges c.in_ok-flow.flow edges.items)
    (λ edges. SpanDirectEdges c.args.modules.now edges.items)
    (λ edges are. record {
      sound = λ slot address has. (goes slot address).0 (are.sound slot address has);
      whole = λ slot address edge. are.whole slot address ((goes slot address).1 edge);
      order = are.order;
    })
    c.few_edges.ensures.edges

pub returns-clause-few : goal.returns-clause-few
returns-clause-few c =
    let ms = c.args.modules.now in
    if_ok c.few_edges.result (λ edges. length edges.items ≤ 2 * link_count c.in_ok-flow.flow)
    (λ edges. length edges.items ≤ 2 * links_most ms)
    (λ edges few. omega (arith, few, c.in_ok-flow.ensures.few))
    c.few_edges.ensures.few
