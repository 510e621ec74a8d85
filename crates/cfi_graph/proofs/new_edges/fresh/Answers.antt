use Rattle.std.proofs.Common.{◌++◌, ◌∷◌, []}
use Rattle.cfi_values.proofs.ThenLemmas.{if_ok}
use Rattle.cfi_flow.specs.Fresh.{AreFreshEdges}
use Rattle.cfi_graph.specs.NewEdges.{AreNewEdges}
use Rattle.cfi_graph.proofs.NewEdgeLemmas.{new_edges}
use Rattle.cfi_graph.proofs.new_edges.fresh.Goals as goal

pub returns : goal.returns
returns c =
    let old = c.args.old.now in
    let ms = c.args.old.now ++ c.args.new.now ∷ [] in
    let flow = c.in_ok-flow.flow in
    let known = c.in_ok-flow.known in
    if_ok c.fresh_edges.result (λ edges. AreFreshEdges known flow edges.items) (λ edges. AreNewEdges old ms edges.items)
    (λ edges are. new_edges old ms flow known c.in_ok-flow.ensures edges.items are) c.fresh_edges.ensures
