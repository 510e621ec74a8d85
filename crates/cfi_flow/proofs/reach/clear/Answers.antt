use Rattle.std.proofs.Common.{◌≡◌, ◌+◌, ◌<◌, ◌++◌, ◌∷◌, [], length, take, get_or, rules, arith, vec_len}
use Rattle.std.proofs.lemmas.List.{take_more}
use Rattle.cfi_flow.proofs.ReachLemmas.{cleared_more, cleared_is}
use Rattle.cfi_flow.proofs.reach.clear.Goals as goal

pub loop-node-preserved : goal.loop-node-preserved
loop-node-preserved c =
    let i = c.loop-node.node-index in
    let nodes = c.args.nodes.now in
    let x = get_or c.args.nodes.now c.loop-node.node-index 0 in
    let m = c.loop-node.marks.items in
    let more : take (i + 1) nodes ≡ take i nodes ++ x ∷ [] = take_more nodes i 0 c.loop-node-test.true in
    let named : x < vec_len c.args.marks.now = c.requires i 0 c.loop-node-test.true in
    let count : vec_len c.args.marks.now ≡ length c.args.marks.now.items = search rules in
    let below : x < length m = omega (arith, named, count, c.loop-node.invariant.len) in
    cleared_is _ _ _ _ _ more (search rules) (cleared_more _ _ m x c.loop-node.invariant below)
