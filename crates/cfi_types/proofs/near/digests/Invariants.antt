use Rattle.std.proofs.Common.{◌≡◌}
use Rattle.cfi_types.specs.inner.Depth.{digests_to}
use Rattle.cfi_types.proofs.near.digests.Given as goal

abbrev pub invariant-loop : goal.invariant-loop
invariant-loop l = l.digests.items ≡ digests_to l.counter l.table
