use Rattle.cfi_sim.specs.inner.Opening.{AreGuestsIn}
use Rattle.cfi_sim.proofs.opening.open_guests.Given as goal

-- the guests so far stand at their entries
abbrev pub invariant-loop-number : goal.invariant-loop-number
invariant-loop-number l = AreGuestsIn l.plan l.starts l.fills l.number l.guests.items
