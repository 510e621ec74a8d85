use Rattle.std.proofs.Common.{◌-◌, length}
use Rattle.cfi_flow.proofs.ReachLemmas.{IsSearch}
use Rattle.cfi_flow.proofs.reach.reached.Given as goal

abbrev pub invariant-loop-i : goal.invariant-loop-i
invariant-loop-i l = IsSearch l.arrows l.from l.marks.items l.order.items l.i

abbrev pub decreases-loop-i : goal.decreases-loop-i
decreases-loop-i l = length l.arrows - l.i
