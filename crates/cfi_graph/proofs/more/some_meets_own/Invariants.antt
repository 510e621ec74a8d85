use Rattle.std.proofs.Common.{ℕ, ◌<◌, get_or}
use Rattle.cfi_aux.specs.declared.records.Kind.{Kind}
use Rattle.cfi_graph.specs.inner.Imports.{imports_in}
use Rattle.cfi_graph.proofs.MetLemmas.{IsUnmet}
use Rattle.cfi_graph.proofs.more.some_meets_own.Given as goal

abbrev pub invariant-loop-kind : goal.invariant-loop-kind
invariant-loop-kind l = (k : ℕ) (d : Kind) → k < l.kind-index
    → IsUnmet (imports_in l.before) (imports_in l.own) (get_or l.kind-items k d)
