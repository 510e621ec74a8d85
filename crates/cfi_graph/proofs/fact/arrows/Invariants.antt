use Rattle.std.proofs.Common.{◌≡◌, ◌++◌, map, take}
use Rattle.std.specs.List.{filter_map}
use Rattle.cfi_flow.specs.Flow.{flipped}
use Rattle.cfi_graph.specs.inner.Flows.{arrow_in}
use Rattle.cfi_graph.proofs.fact.arrows.Given as goal

abbrev pub invariant-loop-link : goal.invariant-loop-link
invariant-loop-link l = l.arrows.items ≡ filter_map arrow_in l.facts ++ map flipped (take l.link-index l.widenings)
