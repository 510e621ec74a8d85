use Rattle.std.proofs.Common.{◌∙◌, subst}
use Rattle.std.proofs.lemmas.Result.{IfOk-weaker}
use Rattle.cfi_commands.proofs.ModulesLemmas.{same_count}
use Rattle.cfi_top.specs.Refused.{IsModuleRefused}
use Rattle.cfi_top.specs.Simulating.{RefusesSim}
use Rattle.cfi_top.proofs.OpeningLemmas.{file_refused}
use Rattle.cfi_top.proofs.SimLemmas.{sim_among, refused_sim, fault_sim}
use Rattle.cfi_top.proofs.plans.sim_of.Goals as goal

-- a file is no module
pub returns-in-Err : goal.returns-in-Err
returns-in-Err c =
    let plan = c.args.plan in
    let schedule = c.args.schedule in
    let found = c.args.found.now in
    let files = c.args.files in
    let text = c.args.bytes.now in
    let fault = c.in-Err.fault in
    IfOk-weaker c.module_refused.result _ _
    (λ answer said. refused_sim plan schedule found files text answer
    (file_refused plan found files (RefusesSim plan schedule found text) fault answer c.in-Err.ensures.fault
    (subst (λ modules. IsModuleRefused modules fault answer) c.as_slice.ensures said)))
    c.module_refused.ensures

-- there is a module for each line
pub simulate-requires-clause-count : goal.simulate-requires-clause-count
simulate-requires-clause-count c =
    same_count c.args.files c.in-Ok.modules c.in-Ok.ensures.ok ∙ c.requires.count

-- the fault is of one of them, or of none
pub sim_refused-requires : goal.sim_refused-requires
sim_refused-requires c =
    sim_among c.args.found.now c.in-Ok.modules c.args.bytes.now c.in-Err-simulate.fault c.in-Err-simulate.ensures.fault

-- the plan or the schedule is refused
pub returns-in-Err-simulate : goal.returns-in-Err-simulate
returns-in-Err-simulate c =
    IfOk-weaker c.sim_refused.result _ _
    (λ answer said. fault_sim c.args.plan c.args.schedule c.args.found.now c.args.files c.args.bytes.now
    c.in-Ok.modules c.in-Ok.ensures.ok c.in-Err-simulate.fault answer c.in-Err-simulate.ensures.fault said)
    c.sim_refused.ensures
