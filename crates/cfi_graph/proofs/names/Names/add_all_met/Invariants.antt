use Rattle.cfi_graph.specs.inner.Imports.{imports_in}
use Rattle.cfi_graph.specs.inner.Names.{Keeps}
use Rattle.cfi_graph.proofs.NameLemmas.{FirstHave, HasOneMet}
use Rattle.cfi_graph.proofs.names.Names.add_all_met.Given as goal

abbrev pub invariant-loop-kind : goal.invariant-loop-kind
invariant-loop-kind l =
    Keeps l.fn.self l.self × FirstHave (HasOneMet l.self (imports_in l.own)) l.branches l.kind-index
