use Rattle.cfi_types.specs.inner.Parents.{AreParents}
use Rattle.cfi_types.proofs.parents.parents_of.Given as goal

abbrev pub invariant-loop-number : goal.invariant-loop-number
invariant-loop-number l = AreParents l.nodes l.number l.parents
