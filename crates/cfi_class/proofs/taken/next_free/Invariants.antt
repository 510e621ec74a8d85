use Rattle.std.proofs.Common.{ℕ, ◌<◌, ◌≤◌}
use Rattle.cfi_class.specs.inner.Numbering.{IsMarked}
use Rattle.cfi_class.proofs.taken.next_free.Given as goal

abbrev pub invariant-loop-number : goal.invariant-loop-number
invariant-loop-number l = (other : ℕ) → l.from ≤ other → other < l.number → IsMarked l.marks other
