use Rattle.std.proofs.Common.{◌≡◌, [], ◌∷◌, List, subst, sym, ap, ◌∙◌, rules}
use Rattle.cfi_aux.specs.declared.modules.Module.{Module}
use Rattle.cfi_engine.specs.Fault.{IsRunFault}
use Rattle.cfi_engine.specs.Guests.{HasCode}
use Rattle.cfi_engine.specs.declared.fault.RunFault.TheVariants.{Open}
use Rattle.cfi_engine.proofs.CodeLemmas.{bare_code}
use Rattle.cfi_plan.specs.Bare.{bare_plan}
use Rattle.cfi_plan.specs.declared.plan.Plan.{Plan}
use Rattle.cfi_top.specs.Refused.{bare_refused}
use Rattle.cfi_top.specs.inner.Running.{IsBareRun}
use Rattle.cfi_top.proofs.RunLemmas.{bare_ran, bare_refuses}
use Rattle.cfi_top.proofs.running.run_bare.Goals as goal

-- its module has one function
pub run_plan-requires-clause-code : goal.run_plan-requires-clause-code
run_plan-requires-clause-code g c κs within =
    let modules = c.from_vec.result in
    let same : modules ≡ c.in-Ok.made ∷ [] = search rules in
    let code = bare_code c.args.bytes.now c.in-Ok.made c.in-Ok.ensures.ok.is in
    subst (λ plan. HasCode plan modules) (sym c.in_ok-plan.ensures) (subst (HasCode bare_plan) (sym same) code)

-- it has run
pub returns-in-Ok-run_plan : goal.returns-in-Ok-run_plan
returns-in-Ok-run_plan g c =
    let modules = c.from_vec.result in
    let made = c.in-Ok.made in
    let same : modules ≡ made ∷ [] = search rules in
    let run = c.in-Ok-run_plan.run' in
    let plan_is : run.plan ≡ bare_plan = search rules in
    bare_ran c.args.input c.args.bytes.now made c.in-Ok.ensures.ok modules same run plan_is
    c.in-Ok-run_plan.ensures.modules c.ran.result c.ran.ensures.answer c.ran.ensures.law

-- it cannot be opened
pub returns-in-Err-Open : goal.returns-in-Err-Open
returns-in-Err-Open g c =
    let plan = c.in_ok-plan.plan in
    let modules = c.from_vec.result in
    let made = c.in-Ok.made in
    let same : modules ≡ made ∷ [] = search rules in
    let told = subst (IsRunFault plan modules) c.in-Err-Open.field-0-is c.in-Err-Open.ensures.fault in
    let of_bare = subst (λ (p : Plan). IsRunFault p modules (Open c.in-Err-Open.fault)) c.in_ok-plan.ensures told in
    let of_made = subst (λ (ms : List Module). IsRunFault bare_plan ms (Open c.in-Err-Open.fault)) same of_bare in
    let refused = c.bare_refused.ensures ∙ ap (λ fault. bare_refused c.args.input fault) c.in-Err-Open.fault-is in
    subst (IsBareRun c.args.input c.args.bytes.now) (sym refused)
    (bare_refuses c.args.input c.args.bytes.now made c.in-Ok.ensures.ok c.in-Err-Open.fault of_made)
