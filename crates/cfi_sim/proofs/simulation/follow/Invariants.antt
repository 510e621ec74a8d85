use Rattle.cfi_sim.specs.inner.Following.{FollowsTo}
use Rattle.cfi_sim.proofs.simulation.follow.Given as goal

-- the lines so far lead on
abbrev pub invariant-loop-number : goal.invariant-loop-number
invariant-loop-number l = FollowsTo l.schedule l.number-iterator l.fn.standing l.standing
