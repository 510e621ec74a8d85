use Rattle.std.proofs.Common.{◌≡◌}
use Rattle.cfi_replay.specs.inner.Follows.{Follows, HasReplayed}
use Rattle.cfi_replay.proofs.parts.follow.Given as goal

-- so many units have brought the machine to where it is, and it follows the log
abbrev pub invariant-loop-turn : goal.invariant-loop-turn
invariant-loop-turn l = record {
  replayed : HasReplayed l.setting l.log l._turn l.fn.start.state l.machine.state;
  follows : Follows l.setting l.log l.cursor l.machine;
  counted : l.machine.state.units ≡ l._turn;
}
