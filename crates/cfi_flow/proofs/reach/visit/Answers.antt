use Rattle.std.proofs.Common.{◌≡◌, ◌+◌, ◌<◌, ◌++◌, ◌∷◌, [], true, false, length, take, set, get_or, ap, rules, arith, sym, ◌∙◌, vec_len}
use Rattle.std.proofs.lemmas.List.{take_more, get_or_read}
use Rattle.std.proofs.lemmas.Bool.{false≢true}
use Rattle.cfi_flow.specs.inner.Reach.{IsMarked}
use Rattle.cfi_flow.proofs.ReachLemmas.{visited_seen, visited_new, visited_is}
use Rattle.cfi_flow.proofs.reach.visit.Goals as goal
use Rattle.cfi_flow.proofs.reach.visit.Goals.{then-not-index+in_ok-push, else-not-index}

pub loop-node-preserved : goal.loop-node-preserved
loop-node-preserved c =
    let i = c.loop-node.node-index in
    let row = c.args.row.now in
    let x = get_or c.args.row.now c.loop-node.node-index 0 in
    let m = c.loop-node.marks.items in
    let o = c.loop-node.order.items in
    let more : take (i + 1) row ≡ take i row ++ x ∷ [] = take_more row i 0 c.loop-node-test.true in
    let named : x < vec_len c.args.marks.now = c.requires i 0 c.loop-node-test.true in
    let count : vec_len c.args.marks.now ≡ length c.args.marks.now.items = search rules in
    let below : x < length m = omega (arith, named, count, c.loop-node.invariant.len) in
    let read : c.index.result.now ≡ get_or m x false = get_or_read m x c.index.result.now below c.index.ensures false in
    elim c.if-not-index.branch [
      | then-not-index+in_ok-push w ↦
          let new : IsMarked m x → ⊥ = λ h. false≢true (sym w.if-not-index.true ∙ read ∙ h) in
          let marks_is : c.if-not-index.marks.items ≡ set m x true = ap (λ v. v.items) w.marks-is in
          let order_is : c.if-not-index.order.items ≡ o ++ x ∷ [] =
          ap (λ v. v.items) w.order-is ∙ w.in_ok-push.ensures.items in
          visited_is _ _ _ _ _ _ _ _ more marks_is order_is
          (visited_new _ _ _ m o x c.loop-node.invariant below new)
      | else-not-index w ↦
          let seen : IsMarked m x = sym read ∙ w.if-not-index.false in
          let marks_is : c.if-not-index.marks.items ≡ m = ap (λ v. v.items) w.marks-is in
          let order_is : c.if-not-index.order.items ≡ o = ap (λ v. v.items) w.order-is in
          visited_is _ _ _ _ _ _ _ _ more marks_is order_is
          (visited_seen _ _ _ m o x c.loop-node.invariant seen)
    ]
