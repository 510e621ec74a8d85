use Rattle.std.proofs.Common.{rules}
use Rattle.cfi_sim.proofs.FollowLemmas.{follows_more, follows_fault}
use Rattle.cfi_sim.proofs.simulation.follow.Goals as goal

pub loop-number-preserved : goal.loop-number-preserved
loop-number-preserved c =
    follows_more c.args.schedule.now c.loop-number.number-iterator c.args.standing.now c.loop-number.standing
    c.loop-number.invariant c.in-Some.number c.in-Some.text.now c.next.new.self (search rules)
    c.follow_line.new.standing c.in-Ok.ensures.ok

-- a line leads nowhere
pub returns-in-Err-clause-fault : goal.returns-in-Err-clause-fault
returns-in-Err-clause-fault c =
    follows_fault c.args.schedule.now c.loop-number.number-iterator c.args.standing.now c.loop-number.standing
    c.loop-number.invariant c.in-Some.number c.in-Some.text.now c.next.new.self (search rules) c.in-Err.fault
    c.in-Err.ensures.fault
