use Rattle.std.proofs.Common.{take}
use Rattle.cfi_policy.specs.inner.ByClass.{IsCount}
use Rattle.cfi_policy.proofs.by_class.class_count.Given as goal

abbrev pub invariant-loop-number : goal.invariant-loop-number
invariant-loop-number l = IsCount (take l.number-index l.bary) l.count
