use Rattle.cfi_class.specs.declared.nodes.TheConstants.{CLASSES}
use Rattle.cfi_class.proofs.TakenLemmas.{TakenSoFar}
use Rattle.cfi_class.proofs.taken.taken_numbers.Given as goal

abbrev pub invariant-loop-number : goal.invariant-loop-number
invariant-loop-number l = TakenSoFar l.numbers CLASSES l.number-index l.taken.items
