use Rattle.std.proofs.Common.{◌∙◌, List, length, inr, sym, ap, subst}
use Rattle.std.proofs.lemmas.Result.{IfOk-weaker}
use Rattle.cfi_commands.proofs.ModulesLemmas.{same_count}
use Rattle.cfi_ledger.proofs.PlanLemmas.{plan_starts}
use Rattle.cfi_ledger.specs.Plans.{CanStart}
use Rattle.cfi_plan.specs.declared.plan.PlanModule.{PlanModule}
use Rattle.cfi_top.specs.Refused.{IsModuleRefused}
use Rattle.cfi_top.proofs.JudgingLemmas.{file_judged}
use Rattle.cfi_top.proofs.OpeningLemmas.{file_among}
use Rattle.cfi_top.proofs.judging.judge_found.Goals as goal

-- what was read can be started
pub judge_text-requires-clause-can : goal.judge_text-requires-clause-can
judge_text-requires-clause-can c =
    subst (CanStart c.args.found.now) (sym c.as_slice.ensures)
    (plan_starts c.args.found.now c.in-Ok.modules c.requires.plan
    (same_count c.args.files c.in-Ok.modules c.in-Ok.ensures.ok ∙ c.requires.count) c.in-Ok.ensures.taken)

-- the fault is of one of the files of the plan's modules
pub module_refused-requires : goal.module_refused-requires
module_refused-requires c =
    file_among c.args.files c.as_slice-in-Err.result.now c.in-Err.fault
    (c.requires.count ∙ ap (λ (ms : List PlanModule). length ms) (sym c.as_slice-in-Err.ensures)) c.in-Err.ensures.fault

-- a file is no module
pub returns-in-Err : goal.returns-in-Err
returns-in-Err c =
    let fault = c.in-Err.fault in
    IfOk-weaker c.module_refused.result _ _
    (λ answer said. inr (file_judged c.args.found.now c.args.files fault answer c.in-Err.ensures.fault
    (subst (λ (ms : List PlanModule). IsModuleRefused ms fault answer) c.as_slice-in-Err.ensures said)))
    c.module_refused.ensures
