use Rattle.std.proofs.Common.{◌≡◌, ◌<◌, vec_len, All}
use Rattle.cfi_types.proofs.partition.count.Given as goal

abbrev pub invariant-loop-node : goal.invariant-loop-node
invariant-loop-node l = record {
  len : vec_len l.counts ≡ vec_len l.fn.counts;
  touched : All (λ k. k < vec_len l.fn.counts) l.touched.items;
}
