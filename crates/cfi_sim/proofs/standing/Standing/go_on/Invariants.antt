use Rattle.cfi_sim.specs.Events.{IsGuestEvent}
use Rattle.cfi_sim.specs.Schedule.{Repeats}
use Rattle.cfi_sim.specs.inner.Making.{HasMadeWithin}
use Rattle.cfi_sim.proofs.standing.Standing.go_on.Given as goal

-- so many events so far
abbrev pub invariant-loop-turn : goal.invariant-loop-turn
invariant-loop-turn l = HasMadeWithin (Repeats (IsGuestEvent l.fn.self.plan l.fn.guest) l._turn) l.fn.self l.self
