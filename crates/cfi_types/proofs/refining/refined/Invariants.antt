use Rattle.std.proofs.Common.{◌*◌, ◌-◌, length}
use Rattle.cfi_types.specs.inner.Keeping.{KeepEqual}
use Rattle.cfi_types.proofs.Pairs.{total}
use Rattle.cfi_types.proofs.refining.refined.Given as goal

abbrev pub invariant-loop-alloc : goal.invariant-loop-alloc
invariant-loop-alloc l = KeepEqual l.nodes l.classes.items

-- least nodes only rise
abbrev pub decreases-loop-alloc : goal.decreases-loop-alloc
decreases-loop-alloc l = length l.nodes * length l.nodes - total l.classes.items
