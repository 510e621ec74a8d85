use Rattle.std.proofs.Common.{◌≡◌, ◌∙◌, ◌++◌, length, map, sym, ap, subst}
use Rattle.cfi_flow.specs.Flow.{flipped, AreBelow, BeginBelow}
use Rattle.cfi_flow.specs.Rows.{AreRows}
use Rattle.cfi_flow.specs.inner.Ways.{tied}
use Rattle.cfi_flow.proofs.FanLemmas.{are_inside}
use Rattle.cfi_flow.proofs.RowWayLemmas.{ways, flipped_below}
use Rattle.cfi_flow.proofs.ways.add_some_ways.Goals as goal

pub spread-requires-clause-arrows : goal.spread-requires-clause-arrows
spread-requires-clause-arrows c =
    are_inside c.args.nodes c.args.arrows.now c.in_ok-forth.forth c.requires.arrows c.in_ok-forth.ensures

pub rows_of-requires-2 : goal.rows_of-requires-2
rows_of-requires-2 c =
    let is : c.as_slice.result.now ≡ map flipped c.args.arrows.now =
    c.as_slice.ensures.value ∙ c.in_ok-flipped.ensures in
    subst (λ ls. BeginBelow c.args.nodes ls) (sym is)
    (λ k d lt. (flipped_below c.args.nodes c.args.arrows.now c.requires.arrows k d lt).0)

pub spread-requires-2-clause-arrows : goal.spread-requires-2-clause-arrows
spread-requires-2-clause-arrows c =
    let is : c.as_slice.result.now ≡ map flipped c.args.arrows.now =
    c.as_slice.ensures.value ∙ c.in_ok-flipped.ensures in
    are_inside c.args.nodes (map flipped c.args.arrows.now) c.in_ok-back.back
    (flipped_below c.args.nodes c.args.arrows.now c.requires.arrows)
    (subst (λ ls. AreRows c.args.nodes ls c.in_ok-back.back) is c.in_ok-back.ensures)

pub add_tied-requires-clause-returns : goal.add_tied-requires-clause-returns
add_tied-requires-clause-returns c =
    let len = ap length c.as_slice-places.ensures.value ∙ c.in_ok-places.ensures.len ∙ c.in_ok-forth.ensures.len in
    subst (λ n. BeginBelow n c.args.returns.now) (sym len) c.requires.returns

pub add_tied-requires-clause-sites : goal.add_tied-requires-clause-sites
add_tied-requires-clause-sites c =
    let len = ap length c.as_slice-places.ensures.value ∙ c.in_ok-places.ensures.len ∙ c.in_ok-forth.ensures.len in
    subst (λ n. BeginBelow n c.args.sites.now) (sym len) c.requires.sites

pub add_tied-requires-clause-site_slots : goal.add_tied-requires-clause-site_slots
add_tied-requires-clause-site_slots c =
    let len = ap length c.as_slice-slots.ensures.value ∙ c.in_ok-slots.ensures.len ∙ c.in_ok-back.ensures.len in
    subst (λ n. BeginBelow n c.args.sites.now) (sym len) c.requires.sites

pub add_tied-requires-clause-arrows : goal.add_tied-requires-clause-arrows
add_tied-requires-clause-arrows c =
    let len = ap length c.as_slice-places.ensures.value ∙ c.in_ok-places.ensures.len ∙ c.in_ok-forth.ensures.len in
    subst (λ n. AreBelow n c.args.arrows.now) (sym len) c.requires.arrows

pub add_tied-requires-clause-arrow_slots : goal.add_tied-requires-clause-arrow_slots
add_tied-requires-clause-arrow_slots c =
    let len = ap length c.as_slice-slots.ensures.value ∙ c.in_ok-slots.ensures.len ∙ c.in_ok-back.ensures.len in
    subst (λ n. AreBelow n c.args.arrows.now) (sym len) c.requires.arrows

pub returns : goal.returns
returns c =
    let arrows = c.args.arrows.now in
    let sites = c.args.sites.now in
    let returns = c.args.returns.now in
    let places = c.in_ok-places.places.items in
    let slots = c.in_ok-slots.slots.items in
    let is : c.as_slice.result.now ≡ map flipped arrows = c.as_slice.ensures.value ∙ c.in_ok-flipped.ensures in
    record {
      added = tied arrows sites returns places slots;
      is = c.in_ok-add_tied.ensures
          ∙ ap (λ ps. c.args.edges.now.items ++ tied arrows sites returns ps c.as_slice-slots.result.now) c.as_slice-places.ensures.value
          ∙ ap (λ ss. c.args.edges.now.items ++ tied arrows sites returns places ss) c.as_slice-slots.ensures.value;
      ways = ways c.args.nodes arrows sites returns c.in_ok-forth.forth c.in_ok-back.back places slots c.requires.arrows
          c.requires.sites c.requires.returns c.in_ok-forth.ensures
          (subst (λ ls. AreRows c.args.nodes ls c.in_ok-back.back) is c.in_ok-back.ensures) c.in_ok-places.ensures
          c.in_ok-slots.ensures;
    }
