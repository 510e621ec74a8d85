use Rattle.std.proofs.Common.{◌<◌, ◌+◌, List, ℕ, get_or, length, sym, subst, arith}
use Rattle.cfi_types.proofs.DivisionLemmas.{ListedSoFar, none_listed, one_listed}
use Rattle.cfi_types.proofs.partition.members_of.Goals as goal

pub loop-node-init : goal.loop-node-init
loop-node-init c = none_listed c.args.parts.now c.in_ok-members.members c.in_ok-members.ensures

pub add-requires : goal.add-requires
add-requires c =
    omega (arith, c.requires.low c.loop-node.node c.loop-node-test.true, c.loop-node-test.true, c.loop-node.invariant.len)

pub loop-node-preserved : goal.loop-node-preserved
loop-node-preserved c =
    let parts = c.args.parts.now in
    let i = c.loop-node.node in
    let below : get_or c.args.parts.now c.loop-node.node 0 < length c.args.parts.now =
    omega (arith, c.requires.low c.loop-node.node c.loop-node-test.true, c.loop-node-test.true) in
    subst (λ (m : List (List ℕ)). ListedSoFar parts (i + 1) m) (sym c.in_ok-add.ensures)
    (one_listed parts i c.loop-node.members c.loop-node.invariant c.loop-node-test.true below)
