use Rattle.cfi_graph.specs.inner.Names.{HasImports}
use Rattle.cfi_graph.proofs.NameLemmas.{FirstHave}
use Rattle.cfi_graph.proofs.names.names_in.Given as goal

abbrev pub invariant-loop-placed : goal.invariant-loop-placed
invariant-loop-placed l = FirstHave (λ m. HasImports l.names m.branches) l.modules l.placed-index
