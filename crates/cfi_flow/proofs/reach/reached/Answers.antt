use Rattle.std.proofs.Common.{◌≡◌, ◌<◌, ◌≤◌, ◌∷◌, [], true, length, set, slice_index, slice_index_or, ap, rules, arith, sym, subst, ◌∙◌, vec_len, All}
use Rattle.std.proofs.lemmas.List.{get_or_read}
use Rattle.std.proofs.lemmas.List.Elements.{All-from_get_or}
use Rattle.cfi_flow.specs.inner.Reach.{IsVisited, IsCleared}
use Rattle.cfi_flow.proofs.ReachLemmas.{IsSearch, search_begins, search_goes_on, search_ends, search_within, search_clears}
use Rattle.cfi_flow.proofs.reach.reached.Goals as goal

pub loop-i-init : goal.loop-i-init
loop-i-init c =
    let rows = c.args.arrows.now in
    let marks = c.args.marks.now.items in
    let order : c.in_ok-order.order.items ≡ c.args.from ∷ [] = search rules in
    subst (λ o. IsSearch rows c.args.from (set marks c.args.from true) o 0) (sym order)
    (search_begins rows c.args.from marks c.requires.from c.requires.clear)

pub row-requires : goal.row-requires
row-requires c =
    let count : vec_len c.loop-i.order ≡ length c.loop-i.order.items = search rules in
    let within : c.loop-i.i < length c.loop-i.order.items = omega (arith, count, c.loop-i-test.true, c.len.ensures) in
    let node : c.index-node.result.now ≡ slice_index c.loop-i.order.items c.loop-i.i =
    get_or_read c.loop-i.order.items c.loop-i.i c.index-node.result.now within c.index-node.ensures 0 in
    subst (λ n. n < length c.args.arrows.now) (sym node)
    (search_within c.args.arrows.now c.args.from c.loop-i.marks.items c.loop-i.order.items c.loop-i.i c.loop-i.i
    c.loop-i.invariant within)

pub loop-i-preserved : goal.loop-i-preserved
loop-i-preserved c =
    let rows = c.args.arrows.now in
    let count : vec_len c.loop-i.order ≡ length c.loop-i.order.items = search rules in
    let within : c.loop-i.i < length c.loop-i.order.items = omega (arith, count, c.loop-i-test.true, c.len.ensures) in
    let node : c.index-node.result.now ≡ slice_index c.loop-i.order.items c.loop-i.i =
    get_or_read c.loop-i.order.items c.loop-i.i c.index-node.result.now within c.index-node.ensures 0 in
    let row : c.row.result.now ≡ slice_index_or rows (slice_index c.loop-i.order.items c.loop-i.i) [] =
    c.row.ensures ∙ ap (λ n. slice_index_or rows n []) node in
    search_goes_on rows c.args.from c.loop-i.marks.items c.loop-i.order.items c.loop-i.i
    c.visit.new.marks.items c.visit.new.order.items c.loop-i.invariant within
    (subst (λ r. IsVisited c.loop-i.marks.items c.loop-i.order.items r c.visit.new.marks.items c.visit.new.order.items)
    row c.in_ok-visit.ensures)

pub clear-requires : goal.clear-requires
clear-requires c =
    let order = c.loop-i.order.items in
    let count : vec_len c.loop-i.marks ≡ length c.loop-i.marks.items = search rules in
    let inside : All (λ k. k < vec_len c.loop-i.marks) order =
    All-from_get_or (λ k. k < vec_len c.loop-i.marks) order 0 (λ j lt.
    let within : slice_index order j < length c.args.arrows.now =
    search_within c.args.arrows.now c.args.from c.loop-i.marks.items order c.loop-i.i j c.loop-i.invariant lt in
    omega (arith, within, count, c.loop-i.invariant.len)) in
    subst (λ ns. All (λ k. k < vec_len c.loop-i.marks) ns) (sym c.as_slice.ensures.value) inside

pub returns : goal.returns
returns c =
    let rows = c.args.arrows.now in
    let order = c.loop-i.order.items in
    let count : vec_len c.loop-i.order ≡ length c.loop-i.order.items = search rules in
    let past : length c.loop-i.order.items ≤ c.loop-i.i = omega (arith, count, c.loop-i-test.false, c.len.ensures) in
    record {
      reached = search_ends rows c.args.from c.loop-i.marks.items order c.loop-i.i c.loop-i.invariant past;
      clear = search_clears rows c.args.from c.loop-i.marks.items order c.loop-i.i c.clear.new.marks.items
          c.loop-i.invariant
          (subst (λ ns. IsCleared c.loop-i.marks.items ns c.clear.new.marks.items) c.as_slice.ensures.value c.clear.ensures);
    }
