use Rattle.std.proofs.Common.{◌≡◌, ◌++◌, take}
use Rattle.std.specs.List.{flat_map}
use Rattle.cfi_flow.specs.inner.Ways.{return_edges}
use Rattle.cfi_flow.proofs.ways.add_returns.Given as goal

abbrev pub invariant-loop-link : goal.invariant-loop-link
invariant-loop-link l =
    l.edges.items ≡ l.fn.edges.items ++ flat_map (return_edges l.places) (take l.link-index l.returns)
