use Rattle.cfi_judge.specs.inner.Trial.{course_in}
use Rattle.cfi_judge.proofs.CauseLemmas.{all_apart, all_whole, versions_told}
use Rattle.cfi_judge.proofs.RefutesLemmas.{not_answered, refuted}
use Rattle.cfi_judge.proofs.trial.Trial.has_causes.Goals as goal

-- one does not hold
pub returns-then-not-has_other_causes : goal.returns-then-not-has_other_causes
returns-then-not-has_other_causes c =
    refuted _ (λ all. not_answered c.has_other_causes.result _ c.if-not-has_other_causes.true
    c.has_other_causes.ensures
    (all_apart (course_in c.args.self.now) c.args.of.now.guest c.args.of.now.log.now all))

-- those of spent versions are left
pub returns : goal.returns
returns c =
    let course = course_in c.args.self.now in
    let guest = c.args.of.now.guest in
    let log = c.args.of.now.log.now in (
      λ yes. all_whole course guest log (c.has_versions.ensures.0 yes)
          (c.has_other_causes.ensures.0 c.if-not-has_other_causes.false),
      λ all. c.has_versions.ensures.1 (versions_told course guest log all),
    )
