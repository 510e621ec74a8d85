use Rattle.std.proofs.Common.{◌≡◌, ◌∙◌, ◌++◌, length, map, ap, sym, subst, arith}
use Rattle.cfi_word.specs.Chain.{Chain}
use Rattle.cfi_word.specs.Edge.{edge_of}
use Rattle.cfi_flow.specs.Fans.{link_edge, IsListed}
use Rattle.cfi_flow.specs.inner.Ways.{AreWays}
use Rattle.cfi_flow.proofs.EdgeLemmas.{few_sound, few_whole, few_length, chain_in, ways_of}
use Rattle.cfi_flow.proofs.edges.few_edges.Goals as goal

pub returns-clause-edges : goal.returns-clause-edges
returns-clause-edges c =
    let flow = c.args.flow.now in
    let one = c.in_ok-add_ways.ensures in
    let other = c.in_ok-add_ways-2.ensures in
    let points : AreWays flow.widenings.items flow.entries.items flow.pointers.items one.added =
    ways_of _ _ _ _ _ _ one.added c.as_slice-widenings.ensures.value c.as_slice-entries.ensures.value
    c.as_slice-pointers.ensures.value one.ways in
    let backs : AreWays flow.arrows.items flow.sites.items flow.returns.items other.added =
    ways_of _ _ _ _ _ _ other.added c.as_slice-arrows.ensures.value c.as_slice-sites.ensures.value
    c.as_slice-returns.ensures.value other.ways in
    let listed : c.in_ok-edges.edges.items ≡ map link_edge flow.listed.items =
    c.in_ok-edges.ensures ∙ ap (λ ls. map link_edge ls) c.as_slice.ensures.value in
    let list = other.is ∙ ap (λ es. es ++ other.added) (one.is ∙ ap (λ es. es ++ one.added) listed) in
    record {
      sound = λ slot address h.
          few_sound flow one.added other.added points backs slot address
          (subst (λ es. IsListed es slot address) list (c.in_order.ensures.only (edge_of slot address) h));
      whole = λ slot address g.
          chain_in _ c.in_order.result.items c.in_order.ensures.kept slot address
          (subst (λ es. Chain (IsListed es) slot address) (sym list)
          (few_whole flow one.added other.added points backs slot address g));
      order = c.in_order.ensures.order;
    }

pub returns-clause-few : goal.returns-clause-few
returns-clause-few c =
    let flow = c.args.flow.now in
    let one = c.in_ok-add_ways.ensures in
    let other = c.in_ok-add_ways-2.ensures in
    let points : AreWays flow.widenings.items flow.entries.items flow.pointers.items one.added =
    ways_of _ _ _ _ _ _ one.added c.as_slice-widenings.ensures.value c.as_slice-entries.ensures.value
    c.as_slice-pointers.ensures.value one.ways in
    let backs : AreWays flow.arrows.items flow.sites.items flow.returns.items other.added =
    ways_of _ _ _ _ _ _ other.added c.as_slice-arrows.ensures.value c.as_slice-sites.ensures.value
    c.as_slice-returns.ensures.value other.ways in
    let listed : c.in_ok-edges.edges.items ≡ map link_edge flow.listed.items =
    c.in_ok-edges.ensures ∙ ap (λ ls. map link_edge ls) c.as_slice.ensures.value in
    let list = other.is ∙ ap (λ es. es ++ other.added) (one.is ∙ ap (λ es. es ++ one.added) listed) in
    let all = few_length flow one.added other.added points backs in
    omega (arith, c.in_order.ensures.len, ap length list, all)
