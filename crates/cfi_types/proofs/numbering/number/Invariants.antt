use Rattle.cfi_types.proofs.Counts.{NumbersSoFar}
use Rattle.cfi_types.proofs.numbering.number.Given as goal

abbrev pub invariant-loop-leader : goal.invariant-loop-leader
invariant-loop-leader l = NumbersSoFar l.leaders l.leader-index l.numbers.items l.count
