use Rattle.std.proofs.Common.{map, ap}
use Rattle.cfi_word.specs.Edge.{edge_of}
use Rattle.cfi_flow.specs.Fans.{link_edge}
use Rattle.cfi_flow.proofs.FreshLemmas.{part_sound, fresh_sound, fresh_whole}
use Rattle.cfi_flow.proofs.OtherLemmas.{others_are}
use Rattle.cfi_flow.proofs.fresh.fresh_edges.Goals as goal

pub add_fresh-requires-clause-known : goal.add_fresh-requires-clause-known
add_fresh-requires-clause-known c = part_sound c.args.known.now c.args.flow.now c.requires.part c.requires.sound

pub returns : goal.returns
returns c =
    let flow = c.args.flow.now in
    let known = c.args.known.now in
    let others = others_are _ (map link_edge flow.listed.items) _ (map link_edge known.listed.items) _
    (ap (λ ls. map link_edge ls) c.as_slice.ensures.value) (ap (λ ls. map link_edge ls) c.as_slice-2.ensures.value)
    c.in_ok-edges.ensures in
    record {
      sound = λ slot address h.
          fresh_sound known flow _ _ c.requires.sound c.requires.part c.requires.once others c.in_ok-add_fresh.ensures slot
          address (c.in_order.ensures.only (edge_of slot address) h);
      whole = λ slot address f.
          c.in_order.ensures.kept (edge_of slot address)
          (fresh_whole known flow _ _ c.requires.sound c.requires.part c.requires.once others c.in_ok-add_fresh.ensures slot
          address f);
      order = c.in_order.ensures.order;
    }
