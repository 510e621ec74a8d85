use Rattle.std.proofs.Common.{◌-◌}
use Rattle.cfi_flow.specs.inner.Spread.{untagged}
use Rattle.cfi_flow.proofs.TaggedLemmas.{IsSpreadingOn}
use Rattle.cfi_flow.proofs.tagged.spread_on.Given as goal

abbrev pub invariant-loop-i : goal.invariant-loop-i
invariant-loop-i l = IsSpreadingOn l.star l.arrows l.seeds l.fn.tags.items l.tags.items l.order.items l.i

abbrev pub decreases-loop-i : goal.decreases-loop-i
decreases-loop-i l = untagged l.fn.tags.items - l.i
