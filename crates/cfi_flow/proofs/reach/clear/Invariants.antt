use Rattle.std.proofs.Common.{take}
use Rattle.cfi_flow.specs.inner.Reach.{IsCleared}
use Rattle.cfi_flow.proofs.reach.clear.Given as goal

abbrev pub invariant-loop-node : goal.invariant-loop-node
invariant-loop-node l = IsCleared l.fn.marks.items (take l.node-index l.nodes) l.marks.items
