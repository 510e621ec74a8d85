use Rattle.cfi_ledger.specs.Starts.{opened_state}
use Rattle.cfi_judge.proofs.ReachedLemmas.{live_next, rows_lack, rows_next, walk_fault}
use Rattle.cfi_judge.proofs.journal.follow.Goals as goal

pub returns-in-Err-clause-fault : goal.returns-in-Err-clause-fault
returns-in-Err-clause-fault c =
    let plan = c.args.plan.now in
    walk_fault plan c.args.modules.now (opened_state plan c.args.roster) c.args.journal.now c.loop-number.number
    c.loop-number.reached c.loop-number.invariant c.loop-number-test.true _ c.in-Err.fault c.in-Err.ensures.fault
    c.at_line.result c.at_line.ensures

pub with_row-requires-clause-live : goal.with_row-requires-clause-live
with_row-requires-clause-live c =
    let plan = c.args.plan.now in
    live_next plan c.args.modules.now (opened_state plan c.args.roster) c.args.journal.now c.loop-number.number
    c.loop-number.reached c.loop-number.invariant c.loop-number-test.true _ c.in-Ok.next c.in-Ok.ensures.ok
    c.in-Ok.ensures.kept c.in-Ok.ensures.rows

pub with_row-requires-clause-near : goal.with_row-requires-clause-near
with_row-requires-clause-near c =
    let plan = c.args.plan.now in
    rows_lack plan c.args.modules.now (opened_state plan c.args.roster) c.args.journal.now c.loop-number.number
    c.loop-number.reached c.loop-number.invariant c.loop-number-test.true _ c.in-Ok.next c.in-Ok.ensures.ok
    c.in-Ok.ensures.kept c.in-Ok.ensures.rows

-- one line more
pub loop-number-preserved : goal.loop-number-preserved
loop-number-preserved c =
    let plan = c.args.plan.now in
    let after = c.in_ok-reached-2.reached in
    rows_next plan c.args.modules.now (opened_state plan c.args.roster) c.args.journal.now c.loop-number.number
    c.loop-number.reached c.loop-number.invariant c.loop-number-test.true _ c.in-Ok.next c.in-Ok.ensures.ok
    c.in-Ok.ensures.kept c.in-Ok.ensures.rows after.rows c.in_ok-reached-2.ensures.ok after
    c.in_ok-reached-2.ensures.same
