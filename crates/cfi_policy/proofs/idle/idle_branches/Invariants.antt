use Rattle.std.proofs.Common.{take}
use Rattle.cfi_policy.specs.inner.Idle.{AreIdle}
use Rattle.cfi_policy.proofs.idle.idle_branches.Given as goal

abbrev pub invariant-loop-placed : goal.invariant-loop-placed
invariant-loop-placed l = AreIdle (take l.placed-index l.modules) l.bary l.idle.items
