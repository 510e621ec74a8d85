use Rattle.cfi_sim.specs.Trace.{TellEvents}
use Rattle.cfi_sim.specs.inner.Tracing.{HasTold}
use Rattle.cfi_sim.proofs.standing.Standing.tell_events.Given as goal

-- so many events so far
abbrev pub invariant-loop-turn : goal.invariant-loop-turn
invariant-loop-turn l = HasTold (TellEvents l.fn.self.plan l.fn.guest l._turn) l.fn.self l.fn.out.items l.self l.out.items
