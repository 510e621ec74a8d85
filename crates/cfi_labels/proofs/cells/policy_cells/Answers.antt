use Rattle.std.proofs.Common.{arith}
use Rattle.cfi_labels.proofs.SetLemmas.{sets_more, sets_none}
use Rattle.cfi_labels.proofs.cells.policy_cells.Goals as goal

pub loop-policy-init : goal.loop-policy-init
loop-policy-init c = sets_none _ c.new-sets.result.items c.new-sets.ensures.items

-- the cells at one policy more
pub loop-policy-preserved : goal.loop-policy-preserved
loop-policy-preserved c =
    sets_more _ c.loop-policy.sets.items c.push.new.self.items c.loop-policy.policy c.in_ok-cells_by.field-0
    c.loop-policy.invariant c.in_ok-cells_by.ensures c.in_ok-push.ensures.items

pub returns : goal.returns
returns c = record {
  count = omega (arith, c.loop-policy.invariant.count);
  each = c.loop-policy.invariant.each;
}
