use Rattle.std.proofs.Common.{◌∙◌, subst}
use Rattle.std.proofs.lemmas.Result.{IfOk-weaker}
use Rattle.cfi_commands.proofs.ModulesLemmas.{same_count}
use Rattle.cfi_engine.specs.Fault.{IsRunFault}
use Rattle.cfi_engine.proofs.CodeLemmas.{plan_code}
use Rattle.cfi_ledger.proofs.PlanLemmas.{plan_starts}
use Rattle.cfi_ledger.specs.Opening.{IsOpenFault}
use Rattle.cfi_request.specs.Plans.{files_of}
use Rattle.cfi_top.specs.Refused.{IsModuleRefused, IsOpeningRefused}
use Rattle.cfi_top.specs.Running.{RefusesStart}
use Rattle.cfi_top.proofs.OpeningLemmas.{file_refused, opening_refused}
use Rattle.cfi_top.proofs.RunLemmas.{open_among, refused_run}
use Rattle.cfi_top.proofs.running.run_found.Goals as goal

-- a file is no module
pub returns-in-Err : goal.returns-in-Err
returns-in-Err g c =
    let input = c.args.input in
    let found = c.args.found.now in
    let files = c.args.files in
    let fault = c.in-Err.fault in
    IfOk-weaker c.module_refused.result _ _
    (λ answer said. refused_run input found files answer
    (file_refused input found files (RefusesStart input (files_of found) found) fault answer c.in-Err.ensures.fault
    (subst (λ modules. IsModuleRefused modules fault answer) c.as_slice.ensures said)))
    c.module_refused.ensures

-- what was read can be started
pub run_plan-requires-clause-can : goal.run_plan-requires-clause-can
run_plan-requires-clause-can g c κs within =
    plan_starts c.args.found.now c.in-Ok.modules c.requires.plan
    (same_count c.args.files c.in-Ok.modules c.in-Ok.ensures.ok ∙ c.requires.count) c.in-Ok.ensures.taken

-- and has entries by name
pub run_plan-requires-clause-code : goal.run_plan-requires-clause-code
run_plan-requires-clause-code g c κs within = plan_code c.args.found.now c.in-Ok.modules c.requires.plan

-- the fault is of one of the plan's modules
pub opening_refused-requires : goal.opening_refused-requires
opening_refused-requires g c =
    let found = c.args.found.now in
    let modules = c.in-Ok.modules in
    let told = subst (IsRunFault found modules) c.in-Err-Open.field-0-is c.in-Err-Open.ensures.fault in
    open_among found modules c.as_slice-in-Err-Open.result.now c.in-Err-Open.fault c.as_slice-in-Err-Open.ensures told

-- the plan cannot be opened
pub returns-in-Err-Open : goal.returns-in-Err-Open
returns-in-Err-Open g c =
    let input = c.args.input in
    let found = c.args.found.now in
    let files = c.args.files in
    let modules = c.in-Ok.modules in
    let fault = c.in-Err-Open.fault in
    let stands = subst (IsRunFault found modules) c.in-Err-Open.field-0-is c.in-Err-Open.ensures.fault in
    IfOk-weaker c.opening_refused.result _ _
    (λ answer said. refused_run input found files answer
    (opening_refused input found files (RefusesStart input (files_of found) found) modules c.in-Ok.ensures.ok
    (IsOpenFault found modules) (λ name refusal refuses. refuses) fault answer stands
    (subst (λ ms. IsOpeningRefused input ms fault answer) c.as_slice-in-Err-Open.ensures said)))
    c.opening_refused.ensures
