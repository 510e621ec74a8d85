use Rattle.std.proofs.Common.{◌≡◌, ◌∷◌, take}
use Rattle.cfi_verify.specs.Target.{entries_of}
use Rattle.cfi_verify.proofs.entries.entries_of.Given as goal

abbrev pub invariant-loop-other : goal.invariant-loop-other
invariant-loop-other l = l.entries.items ≡ entries_of (l.placed ∷ take l.other-index l.loaded)
