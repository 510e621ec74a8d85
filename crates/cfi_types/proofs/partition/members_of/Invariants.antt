use Rattle.cfi_types.proofs.DivisionLemmas.{ListedSoFar}
use Rattle.cfi_types.proofs.partition.members_of.Given as goal

abbrev pub invariant-loop-node : goal.invariant-loop-node
invariant-loop-node l = ListedSoFar l.parts l.node l.members
