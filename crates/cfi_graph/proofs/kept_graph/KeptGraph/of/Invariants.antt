use Rattle.std.proofs.Common.{take}
use Rattle.cfi_graph.specs.KeptGraph.{IsGraphOf}
use Rattle.cfi_graph.proofs.kept_graph.KeptGraph.of.Given as goal

abbrev pub invariant-loop-number : goal.invariant-loop-number
invariant-loop-number l = IsGraphOf (take l.number l.modules) l.graph
