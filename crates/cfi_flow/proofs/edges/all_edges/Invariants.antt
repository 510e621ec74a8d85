use Rattle.std.proofs.Common.{◌≡◌, ◌++◌, map, take}
use Rattle.std.specs.List.{flat_map}
use Rattle.cfi_flow.specs.Fans.{link_edge, all_of}
use Rattle.cfi_flow.proofs.edges.all_edges.Given as goal

abbrev pub invariant-loop-fan : goal.invariant-loop-fan
invariant-loop-fan l = l.edges.items ≡ map link_edge l.flow.listed.items ++ flat_map all_of (take l.fan-index l.fan-items)
