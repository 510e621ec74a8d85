use Rattle.std.proofs.Common.{length, refl, sym, ap, subst, arith}
use Rattle.cfi_model.specs.Raw.{Raw}
use Rattle.cfi_plan.specs.declared.plan.Plan.{Plan}
use Rattle.cfi_word.specs.declared.services.TheConstants.{OPEN}
use Rattle.cfi_guest_run.specs.Runner.{IsServed}
use Rattle.cfi_guest_run.proofs.AnsweredLemmas.{slip_unlogged, slip_unplanned}
use Rattle.cfi_guest_run.proofs.KeepsLemmas.{keeps_same}
use Rattle.cfi_guest_run.proofs.OpenLemmas.{asked_waits}
use Rattle.cfi_guest_run.proofs.OtherLemmas.{served_unlogged, served_unplanned}
use Rattle.cfi_guest_run.proofs.serving.open.Goals as goal

-- no more opens are logged
pub returns-then-opens-ge-MAX_OPENS-clause-ended :
    goal.returns-then-opens-ge-MAX_OPENS-clause-ended
returns-then-opens-ge-MAX_OPENS-clause-ended g c =
    let k = g.N.TableName.key in
    let plan = g.N.LoaderName.plan in
    let modules = g.N.LoaderName.modules in
    subst (λ (r : Raw). IsServed k plan modules c.args.pass.now r) (sym c.refuse.ensures)
    (served_unlogged k plan modules c.args.pass.now c.args.guest.now OPEN c.requires.runner c.requires.asked
    c.last_policy-policy.result (λ same. omega (arith, c.if-opens-ge-MAX_OPENS.true, c.opens.ensures.count)))

-- the plan lacks the module
pub returns-then-argument-len-clause-ended : goal.returns-then-argument-len-clause-ended
returns-then-argument-len-clause-ended g c =
    let k = g.N.TableName.key in
    let plan = g.N.LoaderName.plan in
    let modules = g.N.LoaderName.modules in
    let few = c.if-opens-ge-MAX_OPENS.false in
    let same = ap (λ (p : Plan). length p.modules) c.plan.ensures.value in
    subst (λ (r : Raw). IsServed k plan modules c.args.pass.now r) (sym c.refuse-then-argument-len.ensures)
    (served_unplanned k plan modules c.args.pass.now c.args.guest.now OPEN c.requires.runner c.requires.asked
    c.last_policy-policy.result refl (omega (arith, few, c.opens.ensures.count))
    (omega (arith, c.if-argument-len.true, c.len.ensures, same, c.argument.ensures)))

pub returns-then-opens-ge-MAX_OPENS-clause-keeps :
    goal.returns-then-opens-ge-MAX_OPENS-clause-keeps
returns-then-opens-ge-MAX_OPENS-clause-keeps g c = keeps_same c.args.pass.now

pub returns-then-argument-len-clause-keeps : goal.returns-then-argument-len-clause-keeps
returns-then-argument-len-clause-keeps g c = keeps_same c.args.pass.now

-- neither tells a line
pub returns-then-opens-ge-MAX_OPENS-clause-slip :
    goal.returns-then-opens-ge-MAX_OPENS-clause-slip
returns-then-opens-ge-MAX_OPENS-clause-slip g c =
    slip_unlogged c.args.pass.now c.args.pass.now c.args.guest.now c.refuse.new.guest c.args.slip.now refl
    c.requires.slip OPEN c.last_policy-policy.result
    (asked_waits g.N.TableName.key g.N.LoaderName.plan.fuel c.args.pass.now c.args.guest.now OPEN c.requires.asked)
    c.refuse.ensures

pub returns-then-argument-len-clause-slip : goal.returns-then-argument-len-clause-slip
returns-then-argument-len-clause-slip g c =
    slip_unplanned c.args.pass.now c.args.pass.now c.args.guest.now c.refuse-then-argument-len.new.guest
    c.args.slip.now refl c.requires.slip
    (asked_waits g.N.TableName.key g.N.LoaderName.plan.fuel c.args.pass.now c.args.guest.now OPEN c.requires.asked)
    c.last_policy-policy.result c.refuse-then-argument-len.ensures
