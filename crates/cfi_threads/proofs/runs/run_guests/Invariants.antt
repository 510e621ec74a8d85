use Rattle.std.proofs.Common.{◌≡◌, false}
use Rattle.cfi_model.specs.History.{IsStart}
use Rattle.cfi_runner.specs.Seen.{IsSight, history_seen}
use Rattle.cfi_threads.proofs.runs.run_guests.Given as goal

abbrev pub invariant-loop : goal.invariant-loop
invariant-loop g l = record {
  sight : IsSight g.N.TableName.key l.reader.pass.sight;
  start : IsStart (history_seen g.N.TableName.key l.reader.pass.sight) 88;
  outside : l.reader.pass.parked ≡ false;
}
