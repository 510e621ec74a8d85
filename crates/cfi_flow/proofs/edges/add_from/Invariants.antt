use Rattle.std.proofs.Common.{◌≡◌, ◌++◌, map, take}
use Rattle.cfi_word.specs.Edge.{edge_of}
use Rattle.cfi_flow.proofs.edges.add_from.Given as goal

abbrev pub invariant-loop-target : goal.invariant-loop-target
invariant-loop-target l = l.edges.items ≡ l.fn.edges.items ++ map (edge_of l.branch) (take l.target-index l.targets)
