use Rattle.std.proofs.Common.{◌≡◌, false}
use Rattle.cfi_threads.proofs.tables.load.Given as goal

-- the guest is not parked
abbrev pub invariant-loop : goal.invariant-loop
invariant-loop g l = l.reader.pass.parked ≡ false
