use Rattle.std.proofs.Common.{take}
use Rattle.cfi_flow.specs.inner.Spread.{AreBegun}
use Rattle.cfi_flow.proofs.spread.begin.Given as goal

abbrev pub invariant-loop-seed : goal.invariant-loop-seed
invariant-loop-seed l =
    AreBegun l.fn.tags.items l.fn.order.items (take l.seed-index l.seeds) l.tags.items l.order.items
