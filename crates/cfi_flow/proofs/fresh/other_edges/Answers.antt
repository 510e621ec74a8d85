use Rattle.std.proofs.Common.{map, ap}
use Rattle.cfi_flow.specs.Fans.{link_edge}
use Rattle.cfi_flow.proofs.OtherLemmas.{edge_others, others_when}
use Rattle.cfi_flow.proofs.fresh.other_edges.Goals as goal

pub returns : goal.returns
returns c =
    let others = c.in_ok-others.others.items in
    others_when (map link_edge c.args.links.now) (map link_edge c.args.known.now) (map link_edge others)
    (map link_edge c.as_slice.result.now) c.edges_of.result (ap (λ ls. map link_edge ls) c.as_slice.ensures.value)
    (edge_others c.args.links.now c.args.known.now others c.in_ok-others.ensures) c.edges_of.ensures
