use Rattle.cfi_instr.proofs.EndLemmas.{AreRaised}
use Rattle.cfi_instr.proofs.ends.ends_of.Given as goal

abbrev pub invariant-loop-function : goal.invariant-loop-function
invariant-loop-function l = AreRaised l.functions l.count l.function-index l.ends.items
