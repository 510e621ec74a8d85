use Rattle.std.proofs.Common.{rules, ◌≡◌, ◌<◌, ◌^◌, ◌++◌, List, length, take, drop, ap, subst, sym, ◌∙◌}
use Rattle.cfi_plan.specs.declared.plan.Plan.{Plan}
use Rattle.cfi_plan.specs.declared.plan.ScriptLine.{ScriptLine}
use Rattle.cfi_valid.specs.Script.{script_calls}
use Rattle.cfi_engine.specs.Guests.{IsOpenedTo}
use Rattle.cfi_engine.specs.inner.Guests.{AreOver}
use Rattle.cfi_engine.proofs.ScriptLemmas.{script_fits}
use Rattle.cfi_engine.proofs.WaitingLemmas.{written_back}
use Rattle.cfi_engine.proofs.SeatLemmas.{none_opened}
use Rattle.cfi_engine.proofs.run.run_named.Goals as goal

pub open_guests-requires-clause-opened : goal.open_guests-requires-clause-opened
open_guests-requires-clause-opened g c =
    subst (IsOpenedTo g.N.LoaderName.plan g.N.LoaderName.modules 0) (sym c.open-loader.ensures)
    (none_opened g.N.LoaderName.plan g.N.LoaderName.modules c.args.start c.requires.started)

pub count_calls-calls-requires : goal.count_calls-calls-requires
count_calls-calls-requires g c =
    subst (λ (lines : List ScriptLine). length (script_calls lines) < 2 ^ 32)
    (sym (c.as_slice.ensures ∙ ap (λ (p : Plan). p.script) c.plan.ensures.value))
    (script_fits g.N.TableName.key g.N.LoaderName.plan g.N.LoaderName.modules _ c.plan.ensures.law)

-- what the threads have left of the runners is all of them
pub finish-requires-clause-over : goal.finish-requires-clause-over
finish-requires-clause-over g c =
    let items = c.in_ok-runners.runners.items in
    let new = c.run_beside.new.runners in
    let long : length new ≡ length items = search rules in
    let len : c.in_ok-runners.runners.len ≡ length items = search rules in
    let back : take c.in_ok-runners.runners.len (new ++ drop (length new) items) ≡ new = written_back new items c.in_ok-runners.runners.len long len in
    subst AreOver (sym back) c.run_beside.ensures.over
