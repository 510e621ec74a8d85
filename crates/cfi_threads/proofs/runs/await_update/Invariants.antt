use Rattle.std.proofs.Common.{◌≡◌, false}
use Rattle.cfi_runner.specs.Seen.{SeesMore}
use Rattle.cfi_threads.proofs.runs.await_update.Given as goal

abbrev pub invariant-loop : goal.invariant-loop
invariant-loop g l = SeesMore g.N.TableName.key l.fn.pass.sight l.pass.sight × (l.pass.parked ≡ false)
