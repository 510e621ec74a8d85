use Rattle.cfi_judge.proofs.GuestLemmas.{AreBelow}
use Rattle.cfi_judge.proofs.guests.are_guests.Given as goal

-- the parts so far are those of the plan's guests
abbrev pub invariant-loop-number : goal.invariant-loop-number
invariant-loop-number l = AreBelow l.plan l.starts l.parts l.number
