use Rattle.std.proofs.Common.{◌≡◌, ◌∙◌, ◌++◌, map, take, ap, sym, subst}
use Rattle.std.specs.List.{flat_map}
use Rattle.std.proofs.lemmas.List.{take_all}
use Rattle.cfi_flow.specs.Fans.{link_edge, all_of, IsListed}
use Rattle.cfi_word.specs.Edge.{edge_of}
use Rattle.cfi_flow.proofs.EdgeLemmas.{all_sound, all_whole}
use Rattle.cfi_flow.proofs.edges.all_edges.Goals as goal

pub returns : goal.returns
returns c =
    let flow = c.args.flow.now in
    let fans = c.in_ok-fans.fans.items in
    let items = c.deref-fan-items.result.now in
    let done : take c.loop-fan.fan-index items ≡ fans =
    take_all c.loop-fan.fan-index items c.loop-fan-test.false ∙ c.deref-fan-items.ensures.value in
    let list : c.loop-fan.edges.items ≡ map link_edge flow.listed.items ++ flat_map all_of fans =
    c.loop-fan.invariant ∙ ap (λ fs. map link_edge flow.listed.items ++ flat_map all_of fs) done in
    record {
      sound = λ slot address h.
          all_sound flow fans c.in_ok-fans.ensures slot address
          (subst (λ es. IsListed es slot address) list (c.in_order.ensures.only (edge_of slot address) h));
      whole = λ slot address g.
          c.in_order.ensures.kept (edge_of slot address)
          (subst (λ es. IsListed es slot address) (sym list) (all_whole flow fans c.requires c.in_ok-fans.ensures slot address g));
      order = c.in_order.ensures.order;
    }
