use Rattle.std.proofs.Common.{◌≡◌, vec_len}
use Rattle.cfi_types.proofs.parents.count_each.Given as goal

abbrev pub invariant-loop-place : goal.invariant-loop-place
invariant-loop-place l = vec_len l.counts ≡ vec_len l.fn.counts
