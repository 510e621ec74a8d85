use Rattle.cfi_flow.specs.Flow.{AreBelow}
use Rattle.cfi_calls.proofs.flows.arrows_of.Given as goal

abbrev pub invariant-loop-row : goal.invariant-loop-row
invariant-loop-row l = AreBelow 4 l.links.items
