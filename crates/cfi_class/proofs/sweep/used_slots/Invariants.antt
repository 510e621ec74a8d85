use Rattle.cfi_class.specs.inner.Numbering.{MarksUsed}
use Rattle.cfi_class.proofs.EdgeLemmas.{HasFirst}
use Rattle.cfi_class.proofs.sweep.used_slots.Given as goal

abbrev pub invariant-loop-edge : goal.invariant-loop-edge
invariant-loop-edge l = MarksUsed (HasFirst l.edges l.edge-index) l.slots l.used.items
