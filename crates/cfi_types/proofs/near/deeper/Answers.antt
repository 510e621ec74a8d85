use Rattle.std.proofs.Common.{◌≡◌, ◌<◌, [], List, length, ap, ◌∙◌, arith}
use Rattle.std.proofs.lemmas.List.{get_or_read}
use Rattle.cfi_type_table.specs.Node.{Node, make_node, node_of}
use Rattle.cfi_types.proofs.DepthLemmas.{names_below, deeper_more}
use Rattle.cfi_types.proofs.near.deeper.Goals as goal

pub digest-requires : goal.digest-requires
digest-requires c =
    let xs = c.args.table.now in
    let a = c.loop-node.node-index in
    let x = c.node-item.result in
    let same = c.nodes-node-items.ensures in
    let within : a < length xs = omega (arith, c.loop-node-test.true, ap length same) in
    let is : x ≡ node_of xs a =
    get_or_read c.nodes-node-items.result.now a x c.loop-node-test.true c.node-item.is (make_node 0 [])
    ∙ ap (λ (ns : List Node). node_of ns a) same in
    names_below xs a (length c.args.digests.now) x c.new.result c.requires.types within is c.new.ensures c.requires.len

pub loop-node-preserved : goal.loop-node-preserved
loop-node-preserved c =
    let xs = c.args.table.now in
    let a = c.loop-node.node-index in
    let x = c.node-item.result in
    let same = c.nodes-node-items.ensures in
    let within : a < length xs = omega (arith, c.loop-node-test.true, ap length same) in
    let is : x ≡ node_of xs a =
    get_or_read c.nodes-node-items.result.now a x c.loop-node-test.true c.node-item.is (make_node 0 [])
    ∙ ap (λ (ns : List Node). node_of ns a) same in
    deeper_more xs c.args.digests.now c.loop-node.deeper.items c.push.new.self.items a c.digest.result x c.new.result
    within is c.new.ensures c.digest.ensures c.loop-node.invariant c.in_ok-push.ensures.items
