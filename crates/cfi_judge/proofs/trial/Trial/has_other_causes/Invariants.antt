use Rattle.std.proofs.Common.{◌≡◌, ℕ, ◌<◌, take}
use Rattle.cfi_model.specs.Log.{last_policy}
use Rattle.cfi_judge.specs.inner.Causes.{HasCauseApart}
use Rattle.cfi_judge.specs.inner.Span.{IsAhead}
use Rattle.cfi_judge.specs.inner.Trial.{course_in}
use Rattle.cfi_judge.proofs.trial.Trial.has_other_causes.Given as goal

-- the causes so far hold; the last policy and the next one are those of the place
abbrev pub invariant-loop-at : goal.invariant-loop-at
invariant-loop-at l = record {
  last : l.before ≡ last_policy (take l.at l.of.log.now);
  next : IsAhead l.force l.of.log.now l.at l.ahead;
  below : (k : ℕ) → k < l.at → HasCauseApart (course_in l.self) l.of.guest l.of.log.now k;
}
