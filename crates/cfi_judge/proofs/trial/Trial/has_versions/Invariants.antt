use Rattle.std.proofs.Common.{ℕ, ◌<◌}
use Rattle.cfi_valid.specs.Log.{IsCaused, VersionsSpent}
use Rattle.cfi_judge.specs.inner.Trial.{course_in}
use Rattle.cfi_judge.proofs.trial.Trial.has_versions.Given as goal

-- the versions are told of the modules so far
abbrev pub invariant-loop-number : goal.invariant-loop-number
invariant-loop-number l =
    (k : ℕ) → k < l.number → IsCaused (course_in l.self) l.of.guest l.of.log.now 0 k VersionsSpent
