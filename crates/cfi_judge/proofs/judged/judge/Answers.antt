use Rattle.cfi_judge.proofs.FaultLemmas.{memory_only}
use Rattle.cfi_judge.proofs.judged.judge.Goals as goal

-- a valid report has no other fault
pub returns-clause-only : goal.returns-clause-only
returns-clause-only c = λ valid.
    memory_only c.args.plan.now c.args.modules.now c.args.report.now valid c.judge_parts.result
    c.judge_parts.ensures.fault
