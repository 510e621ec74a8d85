use Rattle.std.proofs.Common.{◌≡◌, map, take, get_or}
use Rattle.std.specs.List.{fold}
use Rattle.cfi_types.specs.inner.Digest.{mixed}
use Rattle.cfi_types.proofs.digest.mix_classes.Given as goal

abbrev pub invariant-loop-place : goal.invariant-loop-place
invariant-loop-place l = l.digest ≡ fold mixed l.start (map (λ n. get_or l.classes n 0) (take l.place l.named))
