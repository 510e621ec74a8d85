use Rattle.std.proofs.Common.{◌≡◌, vec_len, length}
use Rattle.cfi_types.proofs.plan.Plan.new.Given as goal

abbrev pub invariant-loop-number : goal.invariant-loop-number
invariant-loop-number l = vec_len l.plan.sizes ≡ length l.parts
