use Rattle.std.proofs.Common.{◌≡◌, ◌++◌, take}
use Rattle.cfi_flow.specs.Fans.{pairs_of}
use Rattle.cfi_flow.proofs.edges.add_pairs.Given as goal

abbrev pub invariant-loop-slot : goal.invariant-loop-slot
invariant-loop-slot l =
    l.edges.items ≡ l.fn.edges.items ++ pairs_of (take l.slot-index l.slots) l.targets
