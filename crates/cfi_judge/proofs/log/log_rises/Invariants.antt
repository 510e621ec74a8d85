use Rattle.cfi_judge.proofs.LogLemmas.{IsRising}
use Rattle.cfi_judge.proofs.log.log_rises.Given as goal

-- what is left rises from the policy that was logged last exactly where all does
abbrev pub invariant-loop-entry : goal.invariant-loop-entry
invariant-loop-entry l = IsRising l.fn.force l.log l.entry-index l.before
