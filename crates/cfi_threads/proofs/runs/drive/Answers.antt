use Rattle.std.proofs.Common.{◌≡◌, Some, [], sym, ap, subst, ◌∙◌, arith}
use Rattle.cfi_word.specs.declared.services.TheConstants.{QUIET}
use Rattle.cfi_model.specs.declared.act.Wait.TheVariants as waits
use Rattle.cfi_model.specs.Raw.{Raw}
use Rattle.cfi_model.specs.Run.{serve_as}
use Rattle.cfi_model.specs.Service.{too_many}
use Rattle.cfi_tables.specs.Loads.{IsQuiet}
use Rattle.cfi_tables.specs.Views.{parked}
use Rattle.cfi_tables.specs.declared.view.PassView.{PassView}
use Rattle.cfi_runner.specs.Run.{CanRunOn, HasRunOn}
use Rattle.cfi_runner.specs.declared.pause.Pause.TheVariants as pauses
use Rattle.cfi_runner.proofs.HandLemmas.{hands_on}
use Rattle.cfi_runner.proofs.OpenedLemmas.{opened_can, quiet_sees}
use Rattle.cfi_threads.proofs.runs.drive.Goals as goal

-- a quiet hands on what the next run asks for
pub run_until-second-requires-clause-can : goal.run_until-second-requires-clause-can
run_until-second-requires-clause-can g c =
    let k = g.N.TableName.key in
    let fuel = c.args.fuel in
    let p = c.args.pass.now in
    let q = c.run_until-first.new.pass in
    let next = c.quiet.new.pass in
    let new : Raw = c.run_until-first.new.guest in
    let can = subst (CanRunOn k fuel p) (sym c.in_ok-guest.ensures)
    (opened_can k p fuel c.args.number c.args.entry [] c.requires.sight c.requires.start) in
    let same : c.in-Service-eq3.field-0 ≡ QUIET = sym c.in-Service-eq3.field-0-is ∙ c.in-Service-eq3.field-0-test in
    let run = subst (HasRunOn k fuel p q c.in_ok-guest.guest new) (c.in-Service-eq3.is ∙ ap pauses.Service same)
    c.run_until-first.ensures in
    let wait : new.waits ≡ Some (waits.Service QUIET) = ap (λ r. r.waits) run.pauses.0 ∙ run.pauses.1 in
    let going = ap (λ w. (serve_as w new too_many).base.stop) wait
    ∙ (ap (λ r. r.base.stop) run.pauses.0 ∙ run.pauses.2) in
    subst (CanRunOn k fuel next) (sym c.proceed.ensures)
    (hands_on k fuel p q next c.in_ok-guest.guest new QUIET can run
    (quiet_sees k c.quiet.result (parked q) next
    (subst (λ (x : PassView). IsQuiet k c.quiet.result x next) c.park.ensures c.quiet.ensures)
    run.keeps.sees.is) too_many
    (record { fits = λ e. absurd (omega (arith, e)); known = λ e. absurd (omega (arith, e)) }) going)
