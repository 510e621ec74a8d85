use Rattle.std.proofs.Common.{◌≡◌, map, take}
use Rattle.cfi_types.specs.inner.Digest.{digest_of}
use Rattle.cfi_types.specs.inner.Splitting.{signature}
use Rattle.cfi_types.proofs.near.deeper.Given as goal

abbrev pub invariant-loop-node : goal.invariant-loop-node
invariant-loop-node l = l.deeper.items ≡ map (λ x. digest_of (signature l.digests x)) (take l.node-index l.table)
