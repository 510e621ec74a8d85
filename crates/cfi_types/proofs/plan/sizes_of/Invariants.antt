use Rattle.std.proofs.Common.{◌≡◌, vec_len, length}
use Rattle.cfi_types.proofs.plan.sizes_of.Given as goal

abbrev pub invariant-loop-part : goal.invariant-loop-part
invariant-loop-part l = vec_len l.sizes ≡ length l.parts
