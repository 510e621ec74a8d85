use Rattle.std.proofs.Common.{◌≡◌, ◌+◌, ◌<◌, ◌++◌, ◌∷◌, [], None, Some, length, take, set, get_or, ap, rules, arith, sym, ◌∙◌, vec_len}
use Rattle.std.proofs.lemmas.List.{take_more, get_or_read}
use Rattle.cfi_flow.specs.inner.Spread.{tag_of, HasTag}
use Rattle.cfi_flow.proofs.RowLemmas.{make_link}
use Rattle.cfi_flow.proofs.SpreadLemmas.{none_of, some_of, step_seen, step_new, row_more, tagged_is}
use Rattle.cfi_flow.proofs.spread.visit.Goals as goal
use Rattle.cfi_flow.proofs.spread.visit.Goals.{then-is_none+in_ok-push, else-is_none}

pub loop-node-preserved : goal.loop-node-preserved
loop-node-preserved c =
    let i = c.loop-node.node-index in
    let row = c.args.row.now in
    let x = get_or c.args.row.now c.loop-node.node-index 0 in
    let m = c.loop-node.tags.items in
    let o = c.loop-node.order.items in
    let tag = c.args.tag in
    let more : take (i + 1) row ≡ take i row ++ x ∷ [] = take_more row i 0 c.loop-node-test.true in
    let named : x < vec_len c.args.tags.now = c.requires i 0 c.loop-node-test.true in
    let count : vec_len c.args.tags.now ≡ length c.args.tags.now.items = search rules in
    let below : x < length m = omega (arith, named, count, c.loop-node.invariant.len) in
    let read : c.index.result.now ≡ tag_of m x = get_or_read m x c.index.result.now below c.index.ensures None in
    elim c.if-is_none.branch [
      | then-is_none+in_ok-push w ↦
          let new : tag_of m x ≡ None = sym read ∙ none_of _ _ c.is_none.ensures w.if-is_none.true in
          let tags_is : c.if-is_none.tags.items ≡ set m x (Some tag) = ap (λ v. v.items) w.tags-is in
          let order_is : c.if-is_none.order.items ≡ o ++ make_link x tag ∷ [] =
          ap (λ v. v.items) w.order-is ∙ w.in_ok-push.ensures.items in
          tagged_is _ _ _ _ tag _ _ _ _ more tags_is order_is
          (row_more _ _ _ _ _ _ _ x tag c.loop-node.invariant (step_new m o x tag below new))
      | else-is_none w ↦
          let found = some_of _ _ c.is_none.ensures w.if-is_none.false in
          let seen : HasTag m x = (found.0, sym read ∙ found.1) in
          let tags_is : c.if-is_none.tags.items ≡ m = ap (λ v. v.items) w.tags-is in
          let order_is : c.if-is_none.order.items ≡ o = ap (λ v. v.items) w.order-is in
          tagged_is _ _ _ _ tag _ _ _ _ more tags_is order_is
          (row_more _ _ _ _ _ _ _ x tag c.loop-node.invariant (step_seen m o x tag seen))
    ]
