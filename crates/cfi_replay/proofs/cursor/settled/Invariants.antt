use Rattle.std.proofs.Common.{◌≡◌, drop}
use Rattle.cfi_replay.specs.inner.Cursor.{unvoid}
use Rattle.cfi_replay.proofs.cursor.settled.Given as goal

-- what is left begins with nothing that was passed
abbrev pub invariant-loop-at : goal.invariant-loop-at
invariant-loop-at l = unvoid (drop l.from l.log) ≡ unvoid (drop l.at l.log)
