use Rattle.std.proofs.Common.{◌-◌, length}
use Rattle.rv_text.proofs.ListingLemmas.{Listed}
use Rattle.rv_text.proofs.listing.list.Given as goal

abbrev pub invariant-loop-at : goal.invariant-loop-at
invariant-loop-at l = Listed l.words l.fn.out.items l.out.items l.at

abbrev pub decreases-loop-at : goal.decreases-loop-at
decreases-loop-at l = length l.words - l.at
