use Rattle.std.proofs.Common.{take}
use Rattle.cfi_flow.specs.inner.Spread.{IsTagged}
use Rattle.cfi_flow.proofs.spread.visit.Given as goal

abbrev pub invariant-loop-node : goal.invariant-loop-node
invariant-loop-node l =
    IsTagged l.fn.tags.items l.fn.order.items (take l.node-index l.row) l.tag l.tags.items l.order.items
