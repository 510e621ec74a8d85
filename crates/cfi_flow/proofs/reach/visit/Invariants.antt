use Rattle.std.proofs.Common.{take}
use Rattle.cfi_flow.specs.inner.Reach.{IsVisited}
use Rattle.cfi_flow.proofs.reach.visit.Given as goal

abbrev pub invariant-loop-node : goal.invariant-loop-node
invariant-loop-node l =
    IsVisited l.fn.marks.items l.fn.order.items (take l.node-index l.row) l.marks.items l.order.items
