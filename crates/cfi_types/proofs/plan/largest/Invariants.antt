use Rattle.std.proofs.Common.{◌≤◌}
use Rattle.cfi_types.proofs.plan.largest.Given as goal

abbrev pub invariant-loop-i : goal.invariant-loop-i
invariant-loop-i l = l.best ≤ l.i
