use Rattle.std.proofs.Common.{◌≡◌, ◌<◌, ℕ, get_or}
use Rattle.cfi_type_table.specs.Node.{node_of}
use Rattle.cfi_types.specs.inner.Splitting.{signature}
use Rattle.cfi_types.proofs.still.are_still.Given as goal

abbrev pub invariant-loop-a : goal.invariant-loop-a
invariant-loop-a l = (b : ℕ) → b < l.a
    → signature l.classes (node_of l.nodes (get_or l.classes b 0)) ≡ signature l.classes (node_of l.nodes b)
