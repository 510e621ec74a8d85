use Rattle.std.proofs.Common.{◌≡◌, take}
use Rattle.cfi_link.specs.Joined.{joined_of}
use Rattle.cfi_link.specs.Fault.{sizes_of}
use Rattle.cfi_link.specs.inner.Capped.{capped_sizes}
use Rattle.cfi_link.proofs.limits.sizes_of.Given as goal

abbrev pub invariant-loop-added : goal.invariant-loop-added
invariant-loop-added l =
    l.sizes ≡ capped_sizes (sizes_of (joined_of (take l.added-index l.modules)))
