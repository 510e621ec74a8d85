use Rattle.std.proofs.Common.{rules, ◌≡◌, List, length, All, sym, subst}
use Rattle.cfi_aux.specs.declared.placed.Placed.{Placed}
use Rattle.cfi_ledger.specs.Entries.{AllEnter}
use Rattle.cfi_ledger.proofs.PlanLemmas.{plan_starts}
use Rattle.cfi_model.specs.Data.{LiesInData}
use Rattle.cfi_sim.specs.inner.Opening.{AreGuestsIn}
use Rattle.cfi_sim.proofs.OpeningLemmas.{can_open, opened_is}
use Rattle.cfi_unit.specs.declared.fill.Fill.{Fill}
use Rattle.cfi_sim.proofs.opening.open.Goals as goal

pub open_modules-requires-clause-can : goal.open_modules-requires-clause-can
open_modules-requires-clause-can c =
    plan_starts c.args.plan.now c.args.modules.now c.requires.plan c.requires.count c.requires.taken

-- the data of modules of a series lies inside private data
pub open_guests-requires-clause-inside : goal.open_guests-requires-clause-inside
open_guests-requires-clause-inside c =
    subst (λ (fs : List Fill). All LiesInData fs) (sym c.data.ensures)
    (c.series_are_closed_below.ensures.fills _ _ c.modules.ensures.series)

pub open_guests-requires-clause-enter : goal.open_guests-requires-clause-enter
open_guests-requires-clause-enter c =
    subst (AllEnter c.args.plan.now) (sym c.modules.ensures.value) c.in-Ok.ensures.ok.enter

pub open-requires : goal.open-requires
open-requires c =
    let plan = c.args.plan.now in
    let size : c.unwrap-layout.result ≡ plan.code_words = search rules in
    can_open plan c.args.modules.now c.requires.plan c.requires.count c.requires.taken c.in-Ok.roster c.in-Ok.image
    c.in-Ok.ensures.ok c.data.result.now c.data.ensures c.in_ok-guests.guests.items
    (subst
    (λ (ms : List Placed). AreGuestsIn plan ms c.data.result.now (length plan.guests) c.in_ok-guests.guests.items)
    c.modules.ensures.value c.in_ok-guests.ensures) c.unwrap-layout.result size

-- the stage before the first line
pub returns-clause-ok : goal.returns-clause-ok
returns-clause-ok c =
    let plan = c.args.plan.now in
    let size : c.unwrap-layout.result ≡ plan.code_words = search rules in
    opened_is plan c.args.modules.now c.requires.plan c.requires.count c.requires.taken c.in-Ok.roster c.in-Ok.image
    c.in-Ok.ensures.ok c.data.result.now c.data.ensures c.in_ok-guests.guests.items
    (subst
    (λ (ms : List Placed). AreGuestsIn plan ms c.data.result.now (length plan.guests) c.in_ok-guests.guests.items)
    c.modules.ensures.value c.in_ok-guests.ensures) c.unwrap-layout.result size c.in_ok-world.world
    c.in_ok-world.ensures c.new-2.result c.new-2.ensures
