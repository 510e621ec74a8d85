use Rattle.std.proofs.Common.{◌≡◌, ◌+◌, drop}
use Rattle.cfi_import.specs.Start.{first_shared}
use Rattle.cfi_import.proofs.start.first_shared.Given as goal

abbrev pub invariant-loop-k : goal.invariant-loop-k
invariant-loop-k l = l.k + first_shared (drop l.k l.symbols) ≡ first_shared l.symbols
