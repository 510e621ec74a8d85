use Rattle.cfi_flow.proofs.StarLemmas.{IsFrom}
use Rattle.cfi_flow.proofs.star.Star.add_from.Given as goal

abbrev pub invariant-loop-at : goal.invariant-loop-at
invariant-loop-at l = IsFrom l.self-inside.links.items l.node l.at l.fn.list.items l.list.items

-- proposed from the loop's first test
abbrev pub decreases-loop-at : goal.decreases-loop-at
decreases-loop-at l = l.at
