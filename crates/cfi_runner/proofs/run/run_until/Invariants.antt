use Rattle.std.proofs.Common.{◌≡◌}
use Rattle.cfi_runner.proofs.WayLemmas.{IsUnderWay}
use Rattle.cfi_runner.proofs.run.run_until.Given as goal

-- what the loop keeps
abbrev pub invariant-loop : goal.invariant-loop
invariant-loop g l = record {
  under : IsUnderWay g.N.TableName.key l.fn.pass l.fn.guest l.pass l.guest;
  counted : l.guest.base.steps ≡ l.counter;
}
