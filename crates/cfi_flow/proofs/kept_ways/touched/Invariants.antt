use Rattle.std.proofs.Common.{take}
use Rattle.cfi_flow.specs.inner.KeptWays.{AreTouched}
use Rattle.cfi_flow.proofs.kept_ways.touched.Given as goal

abbrev pub invariant-loop-change : goal.invariant-loop-change
invariant-loop-change l = AreTouched l.star l.fn.fresh.items (take l.change-index l.changes) l.list.items
