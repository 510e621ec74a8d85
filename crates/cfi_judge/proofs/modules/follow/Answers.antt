use Rattle.std.proofs.Common.{[], subst}
use Rattle.cfi_judge.specs.inner.Followed.{Comes}
use Rattle.cfi_judge.proofs.FollowLemmas.{all_told, goes_nowhere, goes_on}
use Rattle.cfi_judge.proofs.RefutesLemmas.{refuted}
use Rattle.cfi_judge.proofs.modules.follow.Goals as goal

pub loop-entry-init : goal.loop-entry-init
loop-entry-init c = λ before next. record {
  now = before;
  left = [];
  is_next = next;
  rest = (λ all. all, λ rest. rest);
}

-- one that does not follow
pub returns-in-None : goal.returns-in-None
returns-in-None c = λ before next.
    let have = c.loop-entry.invariant before next in
    refuted _
    (goes_nowhere c.args.plan.now c.args.modules.now before c.args.lines.now c.args.journal.now c.loop-entry.entry-index
    c.loop-entry.followed have _ c.loop-entry-test.true c.change_of.result c.change_of.ensures
    (subst (Comes c.args.plan.now c.args.modules.now have.now have.left c.change_of.result c.args.lines.now
    c.loop-entry.followed) c.in-None.is (c.in_ok-followed.ensures have.now have.left have.is_next)))

pub loop-entry-preserved : goal.loop-entry-preserved
loop-entry-preserved c = λ before next.
    let have = c.loop-entry.invariant before next in
    goes_on c.args.plan.now c.args.modules.now before c.args.lines.now c.args.journal.now c.loop-entry.entry-index
    c.loop-entry.followed have _ c.loop-entry-test.true c.change_of.result c.change_of.ensures c.in-Some.followed
    (subst (Comes c.args.plan.now c.args.modules.now have.now have.left c.change_of.result c.args.lines.now
    c.loop-entry.followed) c.in-Some.is (c.in_ok-followed.ensures have.now have.left have.is_next))

pub returns : goal.returns
returns c = λ before next.
    all_told c.args.plan.now c.args.modules.now before c.args.lines.now c.args.journal.now c.loop-entry.entry-index
    c.loop-entry.followed (c.loop-entry.invariant before next) c.loop-entry-test.false
