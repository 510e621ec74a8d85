use Rattle.cfi_flow.specs.Fans.{AreFans}
use Rattle.cfi_flow.specs.inner.Reach.{AreClear}
use Rattle.cfi_flow.proofs.fans.fans.Given as goal

abbrev pub invariant-loop-node : goal.invariant-loop-node
invariant-loop-node l = record {
  fans : AreFans l.flow l.node l.fans.items;
  clear : AreClear l.flow.nodes l.marks.items;
}
