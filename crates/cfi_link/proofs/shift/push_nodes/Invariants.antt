use Rattle.std.proofs.Common.{◌≡◌, ◌++◌, map, take}
use Rattle.cfi_link.specs.Joined.{node_at}
use Rattle.cfi_link.proofs.shift.push_nodes.Given as goal

abbrev pub invariant-loop-node : goal.invariant-loop-node
invariant-loop-node l =
    l.out.items ≡ l.fn.out.items ++ map (node_at l.start) (take l.node-index l.nodes)
