use Rattle.std.proofs.Common.{Some, refl, sym, subst}
use Rattle.std.specs.Prelude.{IfOk}
use Rattle.cfi_judge.specs.declared.entries.Change.{Change}
use Rattle.cfi_judge.specs.declared.entries.Change.TheVariants as changes
use Rattle.cfi_judge.specs.declared.modules.Followed.{Followed}
use Rattle.cfi_judge.specs.inner.Followed.{Comes}
use Rattle.cfi_judge.proofs.FollowLemmas.{one_left, stays_so}
use Rattle.cfi_judge.proofs.modules.Followed.go.Goals as goal

pub returns-in-Module : goal.returns-in-Module
returns-in-Module c = λ before gone is.
    subst (λ (change : Change). IfOk c.load.result (Comes c.args.plan.now c.args.modules.now before gone change
    c.args.lines.now c.args.self)) (sym c.in-Module.is) (c.load.ensures before gone is)

pub returns-in_ok-leave-in-Retirement : goal.returns-in_ok-leave-in-Retirement
returns-in_ok-leave-in-Retirement c = λ before gone is.
    let new : Followed = record { next = c.in_ok-leave-in-Retirement.field-0; at = c.args.self.at } in
    subst (λ (change : Change). Comes c.args.plan.now c.args.modules.now before gone change c.args.lines.now c.args.self
    (Some new)) (sym c.in-Retirement.is)
    (one_left c.args.plan.now c.args.modules.now before gone c.in-Retirement.retirement c.args.lines.now c.args.self new
    refl (c.in_ok-leave-in-Retirement.ensures _ _ before gone is))

pub returns-in-Epoch : goal.returns-in-Epoch
returns-in-Epoch c = λ before gone is.
    subst (λ (change : Change). Comes c.args.plan.now c.args.modules.now before gone change c.args.lines.now c.args.self
    (Some c.args.self)) (sym c.in-Epoch.is)
    (stays_so c.args.plan.now c.args.modules.now before gone (changes.Epoch c.in-Epoch.field-0) c.args.lines.now
    c.args.self
    (λ more rest. refl) is)

pub returns-in-Nothing : goal.returns-in-Nothing
returns-in-Nothing c = λ before gone is.
    subst (λ (change : Change). Comes c.args.plan.now c.args.modules.now before gone change c.args.lines.now c.args.self
    (Some c.args.self)) (sym c.in-Nothing.is)
    (stays_so c.args.plan.now c.args.modules.now before gone changes.Nothing c.args.lines.now c.args.self
    (λ more rest. refl) is)
