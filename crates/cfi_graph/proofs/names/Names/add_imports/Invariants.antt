use Rattle.cfi_graph.specs.inner.Names.{Keeps}
use Rattle.cfi_graph.proofs.NameLemmas.{FirstHave, HasImport}
use Rattle.cfi_graph.proofs.names.Names.add_imports.Given as goal

abbrev pub invariant-loop-kind : goal.invariant-loop-kind
invariant-loop-kind l = Keeps l.fn.self l.self × FirstHave (HasImport l.self) l.branches l.kind-index
