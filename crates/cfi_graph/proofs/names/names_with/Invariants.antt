use Rattle.cfi_graph.specs.inner.Imports.{imports_in}
use Rattle.cfi_graph.proofs.NameLemmas.{Gathers}
use Rattle.cfi_graph.proofs.names.names_with.Given as goal

abbrev pub invariant-loop-placed : goal.invariant-loop-placed
invariant-loop-placed l = Gathers l.names (imports_in l.own) l.old l.new.branches l.placed-index
