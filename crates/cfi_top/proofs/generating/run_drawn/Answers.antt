use Rattle.std.proofs.Common.{[], sym, subst}
use Rattle.std.proofs.lemmas.Result.{IfOk-weaker}
use Rattle.cfi_commands.specs.Files.{IsFilesFault}
use Rattle.cfi_gen.specs.Measure.{IsMeasure}
use Rattle.cfi_request.specs.declared.command.Command.TheVariants as commands
use Rattle.cfi_top.specs.Outcome.{IsWorked}
use Rattle.cfi_top.specs.Refused.{IsModuleRefused}
use Rattle.cfi_top.specs.inner.Running.{IsPlanRun}
use Rattle.cfi_top.proofs.GeneratingLemmas.{among_lines, files_refused, run_summed}
use Rattle.cfi_top.proofs.generating.run_drawn.Goals as goal

-- the fault is of one of the plan's modules
pub module_refused-requires : goal.module_refused-requires
module_refused-requires g c =
    let plan = c.args.plan.now in
    let fault = c.in-Err.fault in
    among_lines plan c.args.files c.as_slice-in-Err.result.now fault c.requires.number c.as_slice-in-Err.ensures
    (subst (λ files. IsFilesFault plan.code_words files fault) c.as_slice.ensures c.in-Err.ensures.fault)

-- the files are out of order
pub returns-in-Err : goal.returns-in-Err
returns-in-Err g c =
    let plan = c.args.plan.now in
    let fault = c.in-Err.fault in
    let first = subst (λ files. IsFilesFault plan.code_words files fault) c.as_slice.ensures c.in-Err.ensures.fault in
    IfOk-weaker c.module_refused.result _ _
    (λ answer said. files_refused c.args.seed c.args.count plan c.args.files c.requires.is c.requires.drawn fault answer
    first (subst (λ modules. IsModuleRefused modules fault answer) c.as_slice-in-Err.ensures said))
    c.module_refused.ensures

-- the run is summed up, or its refusal told
pub returns : goal.returns
returns g c =
    let plan = c.args.plan.now in
    let seed = c.args.seed in
    let count = c.args.count in
    let measure = c.in-Ok.measure in
    let measured = subst (λ files. IsMeasure plan.code_words files measure) c.as_slice.ensures c.in-Ok.ensures.ok in
    let ran = subst (λ input. IsPlanRun input plan c.args.files c.in_ok-answer.answer) c.in_ok-input.ensures
    c.in_ok-answer.ensures in
    IfOk-weaker c.summed.result _ _
    (λ answer same. subst (IsWorked (commands.Gen seed count) [] []) (sym same)
    (run_summed seed count plan c.args.files c.requires.is c.requires.drawn measure c.requires.sound measured
    c.in_ok-answer.answer ran))
    c.summed.ensures
