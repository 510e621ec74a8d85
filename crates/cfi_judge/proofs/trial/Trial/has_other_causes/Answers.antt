use Rattle.std.proofs.Common.{◌≡◌, ◌+◌, take, get_or}
use borrow.Author.Count.{below_more}
use Rattle.cfi_model.specs.Log.{last_policy, policy_after}
use Rattle.cfi_unit.specs.declared.log.Log.TheVariants.{Pick}
use Rattle.cfi_judge.specs.inner.Causes.{HasCauseApart, HasCausesApart}
use Rattle.cfi_judge.specs.inner.Trial.{course_in}
use Rattle.cfi_judge.proofs.CauseLemmas.{causes_all, last_more}
use Rattle.cfi_judge.proofs.RefutesLemmas.{yes}
use Rattle.cfi_judge.proofs.trial.Trial.has_other_causes.Goals as goal

-- one entry more
pub loop-at-preserved : goal.loop-at-preserved
loop-at-preserved c =
    let log = c.args.of.now.log.now in
    let at = c.loop-at.at in
    let more : last_policy (take (at + 1) log) ≡ policy_after (last_policy (take at log)) (get_or log at (Pick 0 0)) =
    last_more log at (Pick 0 0) c.loop-at-test.true in
    record {
      last = cc (more, c.policy_after-before.ensures, c.loop-at.invariant.last);
      next = c.or_from-ahead.ensures.next;
      below = below_more (HasCauseApart (course_in c.args.self.now) c.args.of.now.guest log) at
          c.loop-at.invariant.below (c.has_cause.ensures.0 c.if-not-has_cause.false);
    }

pub returns : goal.returns
returns c =
    let course = course_in c.args.self.now in
    let log = c.args.of.now.log.now in
    yes (HasCausesApart course c.args.of.now.guest log)
    (causes_all course c.args.of.now.guest log c.loop-at.at c.loop-at-test.false c.loop-at.invariant.below)
