use Rattle.cfi_class.specs.inner.Linked.{IsForestOf}
use Rattle.cfi_class.proofs.EdgeLemmas.{HasFirst}
use Rattle.cfi_class.proofs.sweep.forest_of.Given as goal

abbrev pub invariant-loop-edge : goal.invariant-loop-edge
invariant-loop-edge l = IsForestOf (HasFirst l.edges l.edge-index) l.slots l.code_words l.forest
