use borrow.Author.Count.{below_more}
use Rattle.std.proofs.Common.{ℕ}
use Rattle.cfi_valid.specs.Log.{IsCaused, VersionsSpent}
use Rattle.cfi_judge.specs.inner.Trial.{course_in}
use Rattle.cfi_judge.proofs.trial.Trial.has_versions.Goals as goal

-- one module more
pub loop-number-preserved : goal.loop-number-preserved
loop-number-preserved c =
    below_more
    (λ (k : ℕ). IsCaused (course_in c.args.self.now) c.args.of.now.guest c.args.of.now.log.now 0 k VersionsSpent)
    c.loop-number.number c.loop-number.invariant (c.tells_versions.ensures.0 c.if-not-tells_versions.false)
