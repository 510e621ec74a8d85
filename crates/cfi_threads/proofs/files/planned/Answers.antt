use Rattle.std.proofs.Common.{◌≡◌, length, rules}
use Rattle.cfi_engine.proofs.CodeLemmas.{plan_code}
use Rattle.cfi_threads.proofs.files.planned.Goals as goal

pub returns-clause-can : goal.returns-clause-can
returns-clause-can c =
    let plan = c.in_ok-plan.plan in
    let modules = c.in_ok-modules.modules in
    let many : length modules ≡ length plan.modules = search rules in
    c.plans_can_start.ensures.plan plan modules c.in_ok-plan.ensures many c.in_ok-modules.ensures

pub returns-clause-code : goal.returns-clause-code
returns-clause-code c = plan_code c.in_ok-plan.plan c.in_ok-modules.modules c.in_ok-plan.ensures
