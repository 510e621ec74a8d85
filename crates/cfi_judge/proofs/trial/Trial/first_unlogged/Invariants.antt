use Rattle.cfi_judge.specs.Judge.{HasItsLog}
use Rattle.cfi_judge.specs.inner.Trial.{course_in}
use Rattle.cfi_judge.proofs.PartLemmas.{OfFirst}
use Rattle.cfi_judge.proofs.trial.Trial.first_unlogged.Given as goal

-- the guests so far have logs that fit
abbrev pub invariant-loop-number : goal.invariant-loop-number
invariant-loop-number l = OfFirst l.self.report.now (HasItsLog (course_in l.self)) l.number
