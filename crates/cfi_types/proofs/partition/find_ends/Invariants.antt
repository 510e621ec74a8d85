use Rattle.std.proofs.Common.{◌≡◌, map, take, get_or}
use Rattle.cfi_types.proofs.partition.find_ends.Given as goal

abbrev pub invariant-loop-node : goal.invariant-loop-node
invariant-loop-node l = l.ends.items ≡ map (λ a. get_or l.targets (get_or l.parts a 0) 0) (take l.node-index l.nodes)
