use Rattle.std.proofs.Common.{◌≡◌, take}
use Rattle.std.specs.List.{flat_map}
use Rattle.cfi_flow.specs.inner.FlowRows.{flow_row}
use Rattle.cfi_flow.proofs.fans.joined.Given as goal

abbrev pub invariant-loop-node : goal.invariant-loop-node
invariant-loop-node l = l.numbers.items ≡ flat_map (flow_row l.rows) (take l.node-index l.nodes)
