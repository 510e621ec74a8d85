use Rattle.cfi_sim.specs.inner.Parts.{ArePartsOf}
use Rattle.cfi_sim.proofs.told.parts_of.Given as goal

-- the parts of the guests so far
abbrev pub invariant-loop-number : goal.invariant-loop-number
invariant-loop-number l = ArePartsOf l.plan l.guests l.number l.parts.items
