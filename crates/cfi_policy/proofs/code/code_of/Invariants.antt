use Rattle.cfi_policy.proofs.CodeLemmas.{IsCodeSoFar}
use Rattle.cfi_policy.proofs.code.code_of.Given as goal

abbrev pub invariant-loop-placed : goal.invariant-loop-placed
invariant-loop-placed l = IsCodeSoFar l.modules l.placed-index l.layout l.code.items
