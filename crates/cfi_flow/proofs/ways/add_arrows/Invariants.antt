use Rattle.std.proofs.Common.{◌≡◌, ◌++◌, take}
use Rattle.std.specs.List.{flat_map}
use Rattle.cfi_flow.specs.inner.Ways.{arrow_edges}
use Rattle.cfi_flow.proofs.ways.add_arrows.Given as goal

abbrev pub invariant-loop-link : goal.invariant-loop-link
invariant-loop-link l =
    l.edges.items ≡ l.fn.edges.items ++ flat_map (arrow_edges l.places l.slots) (take l.link-index l.arrows)
