use Rattle.std.proofs.Common.{◌≡◌, take}
use Rattle.cfi_import.specs.Start.{text_end}
use Rattle.cfi_import.proofs.start.text_end.Given as goal

abbrev pub invariant-loop-k : goal.invariant-loop-k
invariant-loop-k l = l.end ≡ text_end (take l.k l.relocs)
