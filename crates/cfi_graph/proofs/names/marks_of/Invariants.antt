use Rattle.std.proofs.Common.{IsTrue}
use Rattle.cfi_graph.specs.inner.Marks.{has_mark}
use Rattle.cfi_graph.proofs.NameLemmas.{FirstHave}
use Rattle.cfi_graph.proofs.names.marks_of.Given as goal

abbrev pub invariant-loop-function : goal.invariant-loop-function
invariant-loop-function l = FirstHave (λ f. IsTrue (has_mark l.marks f.name)) l.placed.functions l.function-index
