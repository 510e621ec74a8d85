use Rattle.cfi_judge.specs.inner.Trial.{course_in}
use Rattle.cfi_judge.proofs.RunLemmas.{HasReplayed}
use Rattle.cfi_judge.proofs.trial.Trial.replay_in.Given as goal

-- the guests so far come to what their parts say
abbrev pub invariant-loop-number : goal.invariant-loop-number
invariant-loop-number l = HasReplayed l.self.report.now (course_in l.self) l.number l.kept
