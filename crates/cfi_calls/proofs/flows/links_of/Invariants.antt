use Rattle.cfi_flow.specs.Flow.{BeginBelow}
use Rattle.cfi_calls.proofs.flows.links_of.Given as goal

abbrev pub invariant-loop-row : goal.invariant-loop-row
invariant-loop-row l = BeginBelow 4 l.links.items
