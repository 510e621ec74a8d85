use Rattle.cfi_flow.specs.inner.Others.{AddsFresh}
use Rattle.cfi_flow.specs.inner.Reach.{AreClear}
use Rattle.cfi_flow.proofs.fresh.add_fresh.Given as goal

abbrev pub invariant-loop-node : goal.invariant-loop-node
invariant-loop-node l = record {
  adds : AddsFresh l.known l.flow l.node l.fn.edges.items l.edges.items;
  clear : AreClear l.flow.nodes l.marks.items;
}
