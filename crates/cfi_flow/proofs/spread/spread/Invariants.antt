use Rattle.std.proofs.Common.{◌-◌, length}
use Rattle.cfi_flow.proofs.SpreadLemmas.{IsSpreading}
use Rattle.cfi_flow.proofs.spread.spread.Given as goal

abbrev pub invariant-loop-i : goal.invariant-loop-i
invariant-loop-i l = IsSpreading l.arrows l.seeds l.tags.items l.order.items l.i

abbrev pub decreases-loop-i : goal.decreases-loop-i
decreases-loop-i l = length l.arrows - l.i
