use Rattle.std.proofs.Common.{ℕ, List, [], subst}
use Rattle.cfi_aux.specs.declared.modules.Module.{Module}
use Rattle.cfi_sim.specs.inner.Opening.{IsOpened}
use Rattle.cfi_sim.specs.inner.Tracing.{TracesTo}
use Rattle.cfi_sim.proofs.OpeningLemmas.{opened_under}
use Rattle.cfi_sim.proofs.TraceLemmas.{schedule_told}
use Rattle.cfi_sim.proofs.tracing.trace.Goals as goal

pub tell_lines-requires-clause-under_way : goal.tell_lines-requires-clause-under_way
tell_lines-requires-clause-under_way c =
    opened_under c.args.plan.now c.args.modules c.requires.plan c.requires.taken c.requires.count c.in-Ok.standing
    (subst (λ (ms : List Module). IsOpened c.args.plan.now ms c.in-Ok.standing) c.as_slice.ensures c.in-Ok.ensures.ok)

-- all lines are told
pub returns-clause-ok : goal.returns-clause-ok
returns-clause-ok c =
    let x = c.in-Ok.standing in
    let y = c.tell_lines.new.standing in
    let text = c.tell_lines.new.out.items in
    schedule_told c.args.plan.now c.args.modules c.args.schedule.now x
    (subst (λ (ms : List Module). IsOpened c.args.plan.now ms x) c.as_slice.ensures c.in-Ok.ensures.ok) y text
    (subst (λ (before : List ℕ). TracesTo c.args.schedule.now [] x before y text) c.new-out.ensures.items
    c.in-Ok-tell_lines.ensures.ok)
