use Rattle.std.proofs.Common.{sym, subst}
use Rattle.cfi_judge.specs.Judge.{IsJudgeFault}
use Rattle.cfi_judge.proofs.JudgeLemmas.{start_fails}
use Rattle.cfi_judge.proofs.judged.started.Goals as goal

-- a start module does not join
pub returns-in-Err-clause-fault : goal.returns-in-Err-clause-fault
returns-in-Err-clause-fault c = λ report.
    subst (IsJudgeFault c.args.plan.now c.args.modules.now report) (sym c.start_fault.ensures)
    (start_fails c.args.plan.now c.args.modules.now report c.in-Err.fault c.in-Err.ensures.fault c.in-Err.ensures.found)
