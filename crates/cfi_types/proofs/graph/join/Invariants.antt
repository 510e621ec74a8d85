use Rattle.std.proofs.Common.{◌≡◌, take}
use Rattle.cfi_types.specs.inner.Joined.{joined_from}
use Rattle.cfi_types.proofs.graph.join.Given as goal

abbrev pub invariant-loop-table : goal.invariant-loop-table
invariant-loop-table l = l.nodes.items ≡ joined_from 0 (take l.table-index l.tables)
