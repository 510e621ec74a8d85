use Rattle.std.proofs.Common.{◌≡◌, vec_len, length}
use Rattle.cfi_types.proofs.parents.counts_of.Given as goal

abbrev pub invariant-loop-node : goal.invariant-loop-node
invariant-loop-node l = vec_len l.counts ≡ length l.nodes
