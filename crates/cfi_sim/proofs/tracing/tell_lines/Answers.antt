use Rattle.std.proofs.Common.{rules}
use Rattle.cfi_sim.proofs.TraceLemmas.{traces_more, traces_fault}
use Rattle.cfi_sim.proofs.tracing.tell_lines.Goals as goal

pub loop-number-preserved : goal.loop-number-preserved
loop-number-preserved c =
    traces_more c.args.schedule.now c.loop-number.number-iterator c.args.standing.now c.loop-number.standing
    c.args.out.now.items c.loop-number.out.items c.loop-number.invariant c.in-Some.number c.in-Some.text.now
    c.next.new.self (search rules) c.tell_line.new.standing c.tell_line.new.out.items c.in-Ok.ensures.ok

-- a line leads nowhere
pub returns-in-Err-clause-fault : goal.returns-in-Err-clause-fault
returns-in-Err-clause-fault c =
    traces_fault c.args.schedule.now c.loop-number.number-iterator c.args.standing.now c.loop-number.standing
    c.args.out.now.items c.loop-number.out.items c.loop-number.invariant c.in-Some.number c.in-Some.text.now
    c.next.new.self (search rules) c.in-Err.fault c.in-Err.ensures.fault
