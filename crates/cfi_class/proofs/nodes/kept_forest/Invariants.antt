use Rattle.std.proofs.Common.{◌≡◌, List, length}
use Rattle.cfi_word.specs.declared.lists.Edge.{Edge}
use Rattle.cfi_class.specs.inner.Nodes.{node_count, HaveNumbers}
use Rattle.cfi_class.proofs.KeptForestLemmas.{IsForestAt}
use Rattle.cfi_class.proofs.nodes.kept_forest.Given as goal

abbrev pub invariant-loop-edge : goal.invariant-loop-edge
invariant-loop-edge l = record {
  slots : l.slots ≡ length l.bary;
  len : length l.forest ≡ node_count l.tary l.bary;
  links : (edges : List Edge) → HaveNumbers l.tary l.bary edges
      → IsForestAt l.tary l.bary edges l.fresh l.edge-index l.forest;
}
