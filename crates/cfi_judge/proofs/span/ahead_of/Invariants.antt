use Rattle.cfi_judge.proofs.AheadLemmas.{IsSameTo}
use Rattle.cfi_judge.proofs.span.ahead_of.Given as goal

-- no policy is logged from there up to here
abbrev pub invariant-loop-place : goal.invariant-loop-place
invariant-loop-place l = IsSameTo l.force l.log l.from l.place
