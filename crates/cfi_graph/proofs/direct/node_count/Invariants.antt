use Rattle.std.proofs.Common.{◌≡◌, take}
use Rattle.cfi_graph.specs.Reading.{node_count}
use Rattle.cfi_graph.proofs.direct.node_count.Given as goal

abbrev pub invariant-loop-placed : goal.invariant-loop-placed
invariant-loop-placed l = l.count ≡ node_count (take l.placed-index l.modules)
