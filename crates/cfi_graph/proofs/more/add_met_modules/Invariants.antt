use Rattle.cfi_graph.specs.Facts.{Adds}
use Rattle.cfi_graph.specs.inner.Imports.{imports_in}
use Rattle.cfi_graph.proofs.AddsLemmas.{TellsBelow}
use Rattle.cfi_graph.proofs.MetLemmas.{NumberMeets}
use Rattle.cfi_graph.proofs.more.add_met_modules.Given as goal

abbrev pub invariant-loop-placed : goal.invariant-loop-placed
invariant-loop-placed l = Adds l.fn.facts.items l.facts.items
    (TellsBelow l.placed-index (NumberMeets (imports_in l.before) (imports_in l.own) l.modules))
