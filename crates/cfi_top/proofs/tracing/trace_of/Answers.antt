use Rattle.std.proofs.Common.{◌∙◌, subst}
use Rattle.std.proofs.lemmas.Result.{IfOk-weaker}
use Rattle.cfi_commands.proofs.ModulesLemmas.{same_count}
use Rattle.cfi_top.specs.Refused.{IsModuleRefused}
use Rattle.cfi_top.specs.Simulating.{RefusesSim}
use Rattle.cfi_top.proofs.OpeningLemmas.{file_refused}
use Rattle.cfi_top.proofs.SimLemmas.{sim_among}
use Rattle.cfi_top.proofs.TracingLemmas.{refused_trace, fault_trace}
use Rattle.cfi_top.proofs.tracing.trace_of.Goals as goal

-- a file is no module
pub returns-in-Err : goal.returns-in-Err
returns-in-Err c =
    let plan = c.args.plan in
    let schedule = c.args.schedule in
    let found = c.args.found.now in
    let files = c.args.files in
    let text = c.args.bytes.now in
    let fault = c.in-Err.fault in
    IfOk-weaker c.module_refused.result _ _
    (λ answer said. refused_trace plan schedule found files text answer
    (file_refused plan found files (RefusesSim plan schedule found text) fault answer c.in-Err.ensures.fault
    (subst (λ modules. IsModuleRefused modules fault answer) c.as_slice.ensures said)))
    c.module_refused.ensures

-- there is a module for each line
pub trace-requires-clause-count : goal.trace-requires-clause-count
trace-requires-clause-count c = same_count c.args.files c.in-Ok.modules c.in-Ok.ensures.ok ∙ c.requires.count

-- the fault is of one of them, or of none
pub sim_refused-requires : goal.sim_refused-requires
sim_refused-requires c =
    sim_among c.args.found.now c.in-Ok.modules c.args.bytes.now c.in-Err-trace.fault c.in-Err-trace.ensures.fault

-- the plan or the schedule is refused
pub returns-in-Err-trace : goal.returns-in-Err-trace
returns-in-Err-trace c =
    IfOk-weaker c.sim_refused.result _ _
    (λ answer said. fault_trace c.args.plan c.args.schedule c.args.found.now c.args.files c.args.bytes.now
    c.in-Ok.modules c.in-Ok.ensures.ok c.in-Err-trace.fault answer c.in-Err-trace.ensures.fault said)
    c.sim_refused.ensures
