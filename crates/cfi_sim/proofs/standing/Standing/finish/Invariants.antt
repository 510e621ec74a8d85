use Rattle.std.proofs.Common.{◌-◌}
use Rattle.cfi_sim.specs.declared.limits.TheConstants.{MAX_EVENTS}
use Rattle.cfi_sim.specs.inner.Making.{HasAdvanced}
use Rattle.cfi_sim.proofs.standing.Standing.finish.Given as goal

-- so many accesses were made
abbrev pub invariant-loop-self : goal.invariant-loop-self
invariant-loop-self l = HasAdvanced l.fn.self l.self

abbrev pub decreases-loop-self : goal.decreases-loop-self
decreases-loop-self l = MAX_EVENTS - l.self.stage.events
