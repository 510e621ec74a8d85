use Rattle.cfi_judge.proofs.WalkLemmas.{force_fault, force_ok, walk_stopped}
use Rattle.cfi_judge.proofs.journal.end_reached.Goals as goal

pub returns-in-Ok-clause-ok : goal.returns-in-Ok-clause-ok
returns-in-Ok-clause-ok c =
    force_ok c.args.plan.now c.args.modules.now c.args.report.now c.args.roster c.requires.started c.as_slice.result.now
    c.as_slice.ensures c.in-Ok.end c.in-Ok.ensures.ok c.with_force.result c.with_force.ensures.same
    c.with_force.ensures.ok

pub returns-in-Ok-clause-fault : goal.returns-in-Ok-clause-fault
returns-in-Ok-clause-fault c =
    force_fault c.args.plan.now c.args.modules.now c.args.report.now c.args.roster c.requires.started
    c.as_slice.result.now c.as_slice.ensures c.in-Ok.end c.in-Ok.ensures.ok c.with_force.result
    c.with_force.ensures.fault c.with_force.ensures.other

pub returns-in-Err-clause-fault : goal.returns-in-Err-clause-fault
returns-in-Err-clause-fault c =
    walk_stopped c.args.plan.now c.args.modules.now c.args.report.now c.args.roster c.requires.started
    c.as_slice.result.now c.as_slice.ensures c.in-Err.fault c.in-Err.ensures.fault
