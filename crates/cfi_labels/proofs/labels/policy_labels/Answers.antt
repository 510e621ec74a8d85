use Rattle.std.proofs.Common.{arith}
use Rattle.cfi_ledger.specs.Roster.{members_in_roster}
use Rattle.cfi_labels.proofs.SetLemmas.{sets_more, sets_none}
use Rattle.cfi_labels.specs.Labels.{AreLabelsAt}
use Rattle.cfi_labels.proofs.labels.policy_labels.Goals as goal

pub loop-policy-init : goal.loop-policy-init
loop-policy-init c =
    sets_none (AreLabelsAt (members_in_roster c.args.roster.now)) c.new-sets.result.items c.new-sets.ensures.items

-- the labels of one policy more
pub loop-policy-preserved : goal.loop-policy-preserved
loop-policy-preserved c =
    sets_more (AreLabelsAt (members_in_roster c.args.roster.now)) c.loop-policy.sets.items c.push.new.self.items
    c.loop-policy.policy c.in_ok-labels_at.field-0 c.loop-policy.invariant c.in_ok-labels_at.ensures
    c.in_ok-push.ensures.items

pub returns : goal.returns
returns c = record {
  count = omega (arith, c.loop-policy.invariant.count);
  each = c.loop-policy.invariant.each;
}
