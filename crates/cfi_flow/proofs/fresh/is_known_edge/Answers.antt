use Rattle.std.proofs.Common.{subst, sym, IsTrue}
use Rattle.cfi_flow.proofs.OtherLemmas.{edge_found}
use Rattle.cfi_flow.proofs.fresh.is_known_edge.Goals as goal

pub returns : goal.returns
returns c =
    let found = edge_found c.args.known.now c.args.edge.now c.binary_search.result c.requires
    c.binary_search.ensures.bound c.binary_search.ensures.position in
    (λ t. found.0 (subst IsTrue c.is_ok.ensures.value t), λ h. subst IsTrue (sym c.is_ok.ensures.value) (found.1 h))
