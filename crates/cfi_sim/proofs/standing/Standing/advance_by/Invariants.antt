use Rattle.cfi_sim.specs.Events.{IsUpdateEvent}
use Rattle.cfi_sim.specs.Schedule.{Repeats}
use Rattle.cfi_sim.specs.inner.Making.{HasMadeWithin}
use Rattle.cfi_sim.proofs.standing.Standing.advance_by.Given as goal

-- so many accesses so far
abbrev pub invariant-loop-access : goal.invariant-loop-access
invariant-loop-access l =
    HasMadeWithin (Repeats (IsUpdateEvent l.fn.self.plan l.fn.self.modules) l._access) l.fn.self l.self
