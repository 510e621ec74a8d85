use Rattle.std.proofs.Common.{◌≡◌, ◌<◌, vec_len, All}
use Rattle.cfi_types.proofs.partition.aim.Given as goal

abbrev pub invariant-loop-part : goal.invariant-loop-part
invariant-loop-part l = record {
  counts : vec_len l.counts ≡ vec_len l.targets;
  plan : vec_len l.plan.sizes ≡ vec_len l.targets;
  len : vec_len l.targets ≡ vec_len l.fn.targets;
  targets : All (λ k. k < vec_len l.fn.targets) l.targets.items;
}
