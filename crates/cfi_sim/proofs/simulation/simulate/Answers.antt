use Rattle.std.proofs.Common.{List, subst}
use Rattle.cfi_aux.specs.declared.modules.Module.{Module}
use Rattle.cfi_sim.specs.inner.Opening.{IsOpened}
use Rattle.cfi_sim.proofs.OpeningLemmas.{opened_under}
use Rattle.cfi_sim.proofs.SimulateLemmas.{schedule_valid}
use Rattle.cfi_sim.proofs.simulation.simulate.Goals as goal

pub follow-requires-clause-under_way : goal.follow-requires-clause-under_way
follow-requires-clause-under_way c =
    opened_under c.args.plan.now c.args.modules c.requires.plan c.requires.taken c.requires.count c.in-Ok.standing
    (subst (λ (ms : List Module). IsOpened c.args.plan.now ms c.in-Ok.standing) c.as_slice.ensures c.in-Ok.ensures.ok)

-- all lines lead on, and the end is told
pub returns-clause-ok : goal.returns-clause-ok
returns-clause-ok c =
    schedule_valid c.args.plan.now c.args.modules c.args.schedule.now c.in-Ok.standing
    (subst (λ (ms : List Module). IsOpened c.args.plan.now ms c.in-Ok.standing) c.as_slice.ensures c.in-Ok.ensures.ok)
    c.requires.plan c.requires.taken c.follow.new.standing c.in-Ok-follow.ensures.ok c.in_ok-report.report
    c.in_ok-report.ensures
