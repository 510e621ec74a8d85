use Rattle.std.proofs.Common.{◌≡◌, take}
use Rattle.cfi_link.specs.Joined.{joined_of}
use Rattle.cfi_link.proofs.joined.join.Given as goal

abbrev pub invariant-loop-added : goal.invariant-loop-added
invariant-loop-added l =
    l.joined ≡ joined_of (take l.added-index l.modules)
