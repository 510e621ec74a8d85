use Rattle.cfi_unit.specs.Spots.{InsnsBelow}
use Rattle.cfi_verify.proofs.reader.first_illegal.Given as goal

abbrev pub invariant-loop-at : goal.invariant-loop-at
invariant-loop-at l = InsnsBelow l.words l.at
