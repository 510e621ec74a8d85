use Rattle.std.proofs.Common.{◌≡◌, length}
use Rattle.std.specs.List.{fold}
use Rattle.cfi_modules.specs.inner.Index.{mixed}
use Rattle.cfi_modules.proofs.index.digest_of.Given as goal

-- what is left leads to the digest of all
abbrev pub invariant-loop-bytes : goal.invariant-loop-bytes
invariant-loop-bytes l = fold mixed l.digest l.bytes ≡ fold mixed 0 l.fn.name

abbrev pub decreases-loop-bytes : goal.decreases-loop-bytes
decreases-loop-bytes l = length l.bytes
