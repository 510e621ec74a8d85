use Rattle.std.proofs.Common.{rules, arith, All, Some, ◌≡◌, ◌+◌, sym, ap, subst, ◌∙◌}
use Rattle.std.specs.List.{slice_get}
use Rattle.std.proofs.lemmas.Result.{IfOk-at_ok}
use Rattle.cfi_guest_run.specs.Runner.{IsOpening, Ran}
use Rattle.cfi_loader.specs.Passes.{with_keeping}
use Rattle.cfi_model.specs.Data.{LiesInData}
use Rattle.cfi_model.specs.Raw.{Raw}
use Rattle.cfi_plan.specs.declared.plan.Plan.{Plan}
use Rattle.cfi_slips.specs.Stubs.{slip_by}
use Rattle.cfi_slips.specs.declared.view.SlipView.{SlipView}
use Rattle.cfi_tables.specs.Keeping.{IsFree, let_out}
use Rattle.cfi_tables.specs.Views.{admitted}
use Rattle.cfi_tables.specs.declared.view.PassView.{PassView}
use Rattle.cfi_valid.specs.Guests.{GuestBegins}
use Rattle.cfi_engine.specs.Guests.{IsOpenedTo}
use Rattle.cfi_engine.proofs.SeatLemmas.{few_out, next_free, next_opened}
use Rattle.cfi_engine.proofs.StartLemmas.{given_lies, opening}
use Rattle.cfi_engine.proofs.guests.open_guest.Goals as goal

pub open-requires : goal.open-requires
open-requires g c =
    subst (All LiesInData) (sym c.fills.ensures)
    (given_lies g.N.TableName.key g.N.LoaderName.plan g.N.LoaderName.modules c.args.loader.now c.plan.ensures.law
    c.requires.opened.opens)

pub admit-requires : goal.admit-requires
admit-requires g c =
    let few = few_out c.args.loader.now.keeping.out c.args.number c.requires.opened.free in
    omega (arith, few, c.requires.number)

pub new-requires-clause-opening : goal.new-requires-clause-opening
new-requires-clause-opening g c =
    let k = g.N.TableName.key in
    let plan = g.N.LoaderName.plan in
    let l = c.args.loader.now in
    let entry = c.entry_of-entry.result.now in
    let address = c.unwrap-address.result in
    let pass = c.unwrap-pass.result.0 in
    let entry_is : slice_get plan.guests c.args.number ≡ Some entry =
    ap (λ (p : Plan). slice_get p.guests c.args.number) (sym c.plan.ensures.value) ∙ c.entry_of-entry.ensures in
    let begins : GuestBegins plan l.course.end.loaded entry address = search rules in
    let free = IfOk-at_ok (λ (both : PassView × SlipView). IsFree l.keeping.out both.0.guest) c.unwrap-pass.ensures c.admit.ensures.free in
    let pass_is = IfOk-at_ok (λ (both : PassView × SlipView). both.0 ≡ admitted k l.keeping both.0.guest) c.unwrap-pass.ensures
    c.admit.ensures.ok in
    let number_is = next_free l.keeping.out c.args.number pass.guest c.requires.opened.out c.requires.opened.free
    free in
    subst (IsOpening k plan g.N.LoaderName.modules pass) (sym c.in_ok-guest.ensures)
    (opening k plan g.N.LoaderName.modules l c.plan.ensures.law c.requires.opened.opens c.args.number entry address
    c.fills.result.now pass c.requires.code entry_is begins c.fills.ensures pass_is number_is)

-- nothing was told yet
pub new-requires-clause-slip : goal.new-requires-clause-slip
new-requires-clause-slip g c =
    let l = c.args.loader.now in
    let slip = IfOk-at_ok (λ (both : PassView × SlipView). both.1 ≡ slip_by both.0.guest l.course.journal)
    c.unwrap-pass.ensures c.admit.ensures.slip in
    slip ∙ ap (slip_by c.unwrap-pass.result.0.guest) c.requires.opened.untold

pub returns-clause-ok : goal.returns-clause-ok
returns-clause-ok g c =
    let l = c.args.loader.now in
    let free = IfOk-at_ok (λ (both : PassView × SlipView). IsFree l.keeping.out both.0.guest) c.unwrap-pass.ensures c.admit.ensures.free in
    record {
      number_is =
          ap (λ (r : Ran). r.pass.guest) c.new.ensures
          ∙ next_free l.keeping.out c.args.number c.unwrap-pass.result.0.guest c.requires.opened.out
          c.requires.opened.free free;
      idle = ap (λ (r : Ran). r.guest.waits) c.new.ensures ∙ ap (λ (r : Raw). r.waits) c.in_ok-guest.ensures;
    }

pub returns-clause-opened : goal.returns-clause-opened
returns-clause-opened g c =
    let l = c.args.loader.now in
    let plan = g.N.LoaderName.plan in
    let pass = c.unwrap-pass.result.0 in
    let free = IfOk-at_ok (λ (both : PassView × SlipView). IsFree l.keeping.out both.0.guest) c.unwrap-pass.ensures c.admit.ensures.free in
    let out = IfOk-at_ok (λ (both : PassView × SlipView). c.admit.new.self ≡ with_keeping (let_out g.N.TableName.key both.0.guest l.keeping) l)
    c.unwrap-pass.ensures c.admit.ensures.out in
    let number_is = next_free l.keeping.out c.args.number pass.guest c.requires.opened.out c.requires.opened.free
    free in
    subst (IsOpenedTo plan g.N.LoaderName.modules (c.args.number + 1)) (sym out)
    (next_opened g.N.TableName.key plan g.N.LoaderName.modules c.args.number pass.guest l c.plan.ensures.law
    c.requires.opened c.requires.number number_is)
