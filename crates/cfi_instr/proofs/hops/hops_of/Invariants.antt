use Rattle.std.proofs.Common.{All}
use Rattle.cfi_instr.specs.inner.Hops.{IsMeasured}
use Rattle.cfi_instr.proofs.hops.hops_of.Given as goal

abbrev pub invariant-loop-w : goal.invariant-loop-w
invariant-loop-w l = All (IsMeasured l.source l.symbols l.offsets) l.hops.items
