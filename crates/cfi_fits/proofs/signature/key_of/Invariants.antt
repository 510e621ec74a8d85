use Rattle.std.proofs.Common.{◌≡◌, map, take, get_or}
use Rattle.cfi_fits.proofs.signature.key_of.Given as goal

abbrev pub invariant-loop-k : goal.invariant-loop-k
invariant-loop-k l = l.key.items ≡ map (λ k. get_or l.row k 0) (take l.k-index l.named)
