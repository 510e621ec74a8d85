use Rattle.std.proofs.Common.{◌≡◌, ◌++◌, map, take}
use Rattle.cfi_types.specs.inner.Joined.{shifted}
use Rattle.cfi_types.proofs.graph.add_table.Given as goal

abbrev pub invariant-loop-node : goal.invariant-loop-node
invariant-loop-node l = l.out.items ≡ l.fn.out.items ++ map (shifted l.start) (take l.node-index l.nodes)
