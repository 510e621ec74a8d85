use Rattle.std.proofs.Common.{◌≡◌, ◌∙◌, ◌<◌, ◌≤◌, length, map, get_or, ap, rules, arith, sym, subst, vec_len}
use Rattle.std.specs.List.{flat_map}
use Rattle.std.proofs.lemmas.List.{get_or_read}
use Rattle.cfi_flow.specs.Flow.{AreBelow, BeginBelow}
use Rattle.cfi_flow.specs.inner.Spread.{IsTagged, AreBegun}
use Rattle.cfi_flow.specs.inner.Tagged.{carried_by}
use Rattle.cfi_flow.proofs.SpreadLemmas.{no_link}
use Rattle.cfi_flow.proofs.TaggedLemmas.{AreEnds, carried_below, ends_are, ends_below, on_begins, on_goes_on, on_ends}
use Rattle.cfi_flow.proofs.tagged.spread_on.Goals as goal

pub begin-requires-2 : goal.begin-requires-2
begin-requires-2 c =
    let old = c.args.tags.now.items in
    let arrows = c.args.arrows.now in
    let is : c.as_slice-2.result.now ≡ flat_map (carried_by old) arrows =
    c.as_slice-2.ensures.value ∙ c.in_ok-carried.ensures
    ∙ ap (λ ts. flat_map (carried_by ts) arrows) c.as_slice.ensures.value in
    let count : vec_len c.begin.new.tags ≡ length c.begin.new.tags.items = search rules in
    let before : vec_len c.args.tags.now ≡ length old = search rules in
    let same : vec_len c.args.tags.now ≡ vec_len c.begin.new.tags =
    omega (arith, count, before, c.in_ok-begin.ensures.len) in
    subst (λ ls. BeginBelow (vec_len c.begin.new.tags) ls) (sym is)
    (carried_below (vec_len c.begin.new.tags) old arrows (subst (λ n. AreBelow n arrows) same c.requires.arrows))

pub loop-i-init : goal.loop-i-init
loop-i-init c =
    let old = c.args.tags.now.items in
    let arrows = c.args.arrows.now in
    let is : c.as_slice-2.result.now ≡ flat_map (carried_by old) arrows =
    c.as_slice-2.ensures.value ∙ c.in_ok-carried.ensures
    ∙ ap (λ ts. flat_map (carried_by ts) arrows) c.as_slice.ensures.value in
    on_begins c.args.star.now arrows c.args.seeds.now old c.begin.new.tags.items c.begin-2.new.tags.items
    c.begin.new.order.items c.begin-2.new.order.items c.new-order.result.items c.new-order.ensures.items
    c.in_ok-begin.ensures
    (subst (λ ls. AreBegun c.begin.new.tags.items c.begin.new.order.items ls c.begin-2.new.tags.items
    c.begin-2.new.order.items) is c.in_ok-begin-2.ensures)

pub visit-requires : goal.visit-requires
visit-requires c =
    let star = c.args.star.now in
    let ends : c.as_slice-in-loop-i-2.result.now ≡ map (λ link. link.to) c.add_from.new.list.items =
    c.as_slice-in-loop-i-2.ensures.value ∙ c.in_ok-ends.ensures
    ∙ ap (λ ls. map (λ link. link.to) ls) c.as_slice-in-loop-i.ensures.value in
    let are = ends_are star c.index-link.result.now.from c.add_from.new.list.items c.new-row.result.items
    c.as_slice-in-loop-i-2.result.now c.new-row.ensures.items ends c.in_ok-add_from.ensures in
    let count : vec_len c.loop-i.tags ≡ length c.loop-i.tags.items = search rules in
    let before : vec_len c.args.tags.now ≡ length c.args.tags.now.items = search rules in
    let same : vec_len c.args.tags.now ≡ vec_len c.loop-i.tags =
    omega (arith, count, before, c.loop-i.invariant.len) in
    ends_below (vec_len c.loop-i.tags) star c.index-link.result.now.from c.as_slice-in-loop-i-2.result.now
    (subst (λ n. AreBelow n star) same c.requires.all) are

pub loop-i-preserved : goal.loop-i-preserved
loop-i-preserved c =
    let star = c.args.star.now in
    let order = c.loop-i.order.items in
    let tags = c.loop-i.tags.items in
    let i = c.loop-i.i in
    let row = c.as_slice-in-loop-i-2.result.now in
    let count : vec_len c.loop-i.order ≡ length c.loop-i.order.items = search rules in
    let within : c.loop-i.i < length c.loop-i.order.items = omega (arith, count, c.loop-i-test.true, c.len.ensures) in
    let link : c.index-link.result.now ≡ get_or order i no_link =
    get_or_read order i c.index-link.result.now within c.index-link.ensures no_link in
    let ends : row ≡ map (λ link. link.to) c.add_from.new.list.items =
    c.as_slice-in-loop-i-2.ensures.value ∙ c.in_ok-ends.ensures
    ∙ ap (λ ls. map (λ link. link.to) ls) c.as_slice-in-loop-i.ensures.value in
    let are = ends_are star c.index-link.result.now.from c.add_from.new.list.items c.new-row.result.items row
    c.new-row.ensures.items ends c.in_ok-add_from.ensures in
    on_goes_on star c.args.arrows.now c.args.seeds.now c.args.tags.now.items tags order i c.visit.new.tags.items
    c.visit.new.order.items row c.loop-i.invariant within (subst (λ l. AreEnds star l.from row) link are)
    (subst (λ l. IsTagged tags order row l.to c.visit.new.tags.items c.visit.new.order.items) link c.in_ok-visit.ensures)

pub returns-clause-ok : goal.returns-clause-ok
returns-clause-ok c =
    let count : vec_len c.loop-i.order ≡ length c.loop-i.order.items = search rules in
    let past : length c.loop-i.order.items ≤ c.loop-i.i = omega (arith, count, c.loop-i-test.false, c.len.ensures) in
    on_ends c.args.star.now c.args.arrows.now c.args.seeds.now c.args.tags.now.items c.loop-i.tags.items
    c.loop-i.order.items c.loop-i.i c.loop-i.invariant past
