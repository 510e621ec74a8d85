use Rattle.cfi_judge.proofs.GuestLemmas.{planned, unplanned}
use Rattle.cfi_judge.proofs.guests.is_planned.Goals as goal

pub returns-in-Some : goal.returns-in-Some
returns-in-Some c =
    planned c.args.plan.now c.args.number c.args.entry.now c.as_slice.result.now c.as_slice.ensures
    c.in-Some.planned.now c.in-Some.ensures.lookup.3.0 c.in-Some.ensures.lookup.1 c.eq.result
    c.as_str.result.now c.as_str.ensures c.as_str-in-Some.result.now c.as_str-in-Some.ensures c.eq.ensures

pub returns-in-None : goal.returns-in-None
returns-in-None c =
    unplanned c.args.plan.now c.args.number c.args.entry.now c.as_slice.result.now c.as_slice.ensures
    c.in-None.ensures.lookup.3
