use Rattle.cfi_graph.specs.Facts.{Adds}
use Rattle.cfi_graph.specs.More.{IsMetFact}
use Rattle.cfi_graph.specs.inner.Imports.{imports_in}
use Rattle.cfi_graph.proofs.AddsLemmas.{TellsBelow}
use Rattle.cfi_graph.proofs.TellLemmas.{SpotTells}
use Rattle.cfi_graph.proofs.more.add_met_units.Given as goal

abbrev pub invariant-loop-spot : goal.invariant-loop-spot
invariant-loop-spot l = Adds l.fn.facts.items l.facts.items
    (TellsBelow l.spot-index (SpotTells (IsMetFact (imports_in l.before) (imports_in l.own) l.placed) l.spot-items))
