use Rattle.std.proofs.Common.{◌≡◌, ◌<◌, ◌≤◌, [], None, length, get_or, slice_index_or, replicate, ap, rules, arith, sym, subst, ◌∙◌, vec_len}
use Rattle.std.proofs.lemmas.List.{get_or_read}
use Rattle.cfi_flow.specs.inner.Spread.{IsTagged}
use Rattle.cfi_flow.proofs.SpreadLemmas.{no_link, spreading_begins, spreading_goes_on, spreading_ends, spreading_within}
use Rattle.cfi_flow.proofs.spread.spread.Goals as goal

pub loop-i-init : goal.loop-i-init
loop-i-init c =
    let rows = c.args.arrows.now in
    let tags : c.in_ok-tags.tags.items ≡ replicate (length rows) None = search rules in
    spreading_begins rows c.args.seeds.now c.in_ok-tags.tags.items _ _ _ tags c.new-order.ensures.items
    c.in_ok-begin.ensures

pub row-requires : goal.row-requires
row-requires c =
    let order = c.loop-i.order.items in
    let count : vec_len c.loop-i.order ≡ length c.loop-i.order.items = search rules in
    let within : c.loop-i.i < length c.loop-i.order.items = omega (arith, count, c.loop-i-test.true, c.len.ensures) in
    let link : c.index-link.result.now ≡ get_or order c.loop-i.i no_link =
    get_or_read order c.loop-i.i c.index-link.result.now within c.index-link.ensures no_link in
    subst (λ l. l.from < length c.args.arrows.now) (sym link)
    (spreading_within c.args.arrows.now c.args.seeds.now c.loop-i.tags.items order c.loop-i.i c.loop-i.i
    c.loop-i.invariant within)

pub loop-i-preserved : goal.loop-i-preserved
loop-i-preserved c =
    let rows = c.args.arrows.now in
    let order = c.loop-i.order.items in
    let tags = c.loop-i.tags.items in
    let count : vec_len c.loop-i.order ≡ length c.loop-i.order.items = search rules in
    let within : c.loop-i.i < length c.loop-i.order.items = omega (arith, count, c.loop-i-test.true, c.len.ensures) in
    let link : c.index-link.result.now ≡ get_or order c.loop-i.i no_link =
    get_or_read order c.loop-i.i c.index-link.result.now within c.index-link.ensures no_link in
    let row : c.row.result.now ≡ slice_index_or rows (get_or order c.loop-i.i no_link).from [] =
    c.row.ensures ∙ ap (λ l. slice_index_or rows l.from []) link in
    spreading_goes_on rows c.args.seeds.now tags order c.loop-i.i c.visit.new.tags.items c.visit.new.order.items
    c.loop-i.invariant within
    (subst (λ l. IsTagged tags order (slice_index_or rows (get_or order c.loop-i.i no_link).from []) l.to
    c.visit.new.tags.items c.visit.new.order.items) link
    (subst (λ r. IsTagged tags order r c.index-link.result.now.to c.visit.new.tags.items c.visit.new.order.items) row
    c.in_ok-visit.ensures))

pub returns : goal.returns
returns c =
    let count : vec_len c.loop-i.order ≡ length c.loop-i.order.items = search rules in
    let past : length c.loop-i.order.items ≤ c.loop-i.i = omega (arith, count, c.loop-i-test.false, c.len.ensures) in
    spreading_ends c.args.arrows.now c.args.seeds.now c.loop-i.tags.items c.loop-i.order.items c.loop-i.i
    c.loop-i.invariant past
