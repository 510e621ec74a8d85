use Rattle.std.proofs.Common.{ℕ, ap, sym, subst}
use Rattle.cfi_tables.specs.declared.view.PassView.{PassView}
use Rattle.cfi_guest_run.specs.Runner.{HasAsked, IsRunner}
use Rattle.cfi_guest_run.proofs.AnsweredLemmas.{slip_same, slip_unlogged}
use Rattle.cfi_guest_run.proofs.KeepsLemmas.{keeps_quiet}
use Rattle.cfi_guest_run.proofs.OpenLemmas.{asked_waits}
use Rattle.cfi_guest_run.proofs.OtherLemmas.{asked_parked, runner_parked}
use Rattle.cfi_guest_run.proofs.ServiceLemmas.{left_on, left_runs, left_so, opened_on, opened_so, opens}
use Rattle.cfi_guest_run.proofs.serving.serve.Goals as goal

-- inside an open the guest is parked
pub open-requires-clause-runner : goal.open-requires-clause-runner
open-requires-clause-runner g c =
    subst (λ (v : PassView). IsRunner g.N.TableName.key g.N.LoaderName.plan g.N.LoaderName.modules v c.args.guest.now)
    (sym c.park.ensures)
    (runner_parked g.N.TableName.key g.N.LoaderName.plan g.N.LoaderName.modules c.args.pass.now c.args.guest.now
    c.args.number c.requires.runner c.requires.asked)

pub open-requires-clause-asked : goal.open-requires-clause-asked
open-requires-clause-asked g c =
    subst (λ (z : PassView × ℕ). HasAsked g.N.TableName.key g.N.LoaderName.plan.fuel z.0 c.args.guest.now z.1)
    (λ i. (sym c.park.ensures i, c.if-number-eq-OPEN.true i))
    (asked_parked g.N.TableName.key g.N.LoaderName.plan.fuel c.args.pass.now c.args.guest.now c.args.number
    c.requires.asked)

pub open-requires-clause-slip : goal.open-requires-clause-slip
open-requires-clause-slip g c =
    slip_same c.args.pass.now c.park.new.pass c.args.guest.now c.args.slip.now
    (ap (λ (v : PassView). v.guest) c.park.ensures) c.requires.slip

pub returns-then-number-eq-OPEN-clause-runner : goal.returns-then-number-eq-OPEN-clause-runner
returns-then-number-eq-OPEN-clause-runner g c =
    opens g.N.TableName.key g.N.LoaderName.plan g.N.LoaderName.modules c.args.pass.now c.park.new.pass
    c.args.guest.now c.open.new.guest c.args.number c.requires.runner c.requires.asked c.park.ensures
    c.open.new.pass c.quiet.new.pass c.quiet.result c.quiet.ensures c.in_ok-open.ensures.ended c.in_ok-open.ensures.ok

pub returns-then-number-eq-OPEN-clause-open : goal.returns-then-number-eq-OPEN-clause-open
returns-then-number-eq-OPEN-clause-open g c asks =
    opened_so g.N.TableName.key g.N.LoaderName.plan g.N.LoaderName.modules c.args.pass.now c.park.new.pass
    c.args.guest.now c.open.new.guest c.args.number c.requires.runner c.requires.asked c.park.ensures
    c.open.new.pass c.quiet.new.pass c.quiet.result c.quiet.ensures c.in_ok-open.ensures.answer

pub returns-then-number-eq-OPEN-clause-keeps : goal.returns-then-number-eq-OPEN-clause-keeps
returns-then-number-eq-OPEN-clause-keeps g c =
    opened_on g.N.TableName.key g.N.LoaderName.plan g.N.LoaderName.modules c.args.pass.now c.park.new.pass
    c.args.guest.now c.open.new.guest c.args.number c.requires.runner c.requires.asked c.park.ensures
    c.open.new.pass c.quiet.new.pass c.quiet.result c.quiet.ensures c.in_ok-open.ensures.keeps

-- any other service, from which the guest leaves, or stays parked
pub returns-clause-runner : goal.returns-clause-runner
returns-clause-runner g c =
    left_runs g.N.TableName.key g.N.LoaderName.plan g.N.LoaderName.modules c.args.pass.now c.park.new.pass
    c.args.guest.now c.end.new.guest c.args.number c.requires.runner c.requires.asked c.park.ensures
    c.if-number-eq-OPEN.false c.end.ensures c.leave.new.pass c.leave.ensures

pub returns-clause-other : goal.returns-clause-other
returns-clause-other g c other =
    left_so g.N.TableName.key g.N.LoaderName.plan g.N.LoaderName.modules c.args.pass.now c.park.new.pass
    c.args.guest.now c.end.new.guest c.args.number c.requires.runner c.requires.asked c.park.ensures other
    c.end.ensures c.leave.new.pass c.leave.ensures

pub returns-clause-keeps : goal.returns-clause-keeps
returns-clause-keeps g c =
    left_on g.N.TableName.key g.N.LoaderName.plan g.N.LoaderName.modules c.args.pass.now c.park.new.pass
    c.args.guest.now c.end.new.guest c.args.number c.requires.runner c.requires.asked c.park.ensures
    c.if-number-eq-OPEN.false c.end.ensures c.leave.new.pass c.leave.ensures

-- ---- the slip is that of the pass's guest, in either case

pub returns-then-number-eq-OPEN-clause-slip : goal.returns-then-number-eq-OPEN-clause-slip
returns-then-number-eq-OPEN-clause-slip g c =
    slip_same c.open.new.pass c.quiet.new.pass c.open.new.guest c.open.new.slip
    (keeps_quiet g.N.TableName.key c.quiet.result c.open.new.pass c.quiet.new.pass c.quiet.ensures).guest
    c.in_ok-open.ensures.slip

pub returns-clause-slip : goal.returns-clause-slip
returns-clause-slip g c =
    slip_unlogged c.args.pass.now c.leave.new.pass c.args.guest.now c.end.new.guest c.args.slip.now
    (left_on g.N.TableName.key g.N.LoaderName.plan g.N.LoaderName.modules c.args.pass.now c.park.new.pass
    c.args.guest.now c.end.new.guest c.args.number c.requires.runner c.requires.asked c.park.ensures
    c.if-number-eq-OPEN.false c.end.ensures c.leave.new.pass c.leave.ensures).guest
    c.requires.slip c.args.number 0
    (asked_waits g.N.TableName.key g.N.LoaderName.plan.fuel c.args.pass.now c.args.guest.now c.args.number
    c.requires.asked) c.end.ensures
