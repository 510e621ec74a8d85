use Rattle.std.proofs.lemmas.Result.{IfOk-weaker}
use Rattle.cfi_judge.proofs.WalkLemmas.{never_lines}
use Rattle.cfi_judge.specs.Reached.{StandsIn}
use Rattle.cfi_judge.specs.inner.Reached.{IsReached}
use Rattle.cfi_judge.proofs.journal.journal_end.Goals as goal

pub returns-clause-stands : goal.returns-clause-stands
returns-clause-stands c =
    IfOk-weaker c.end_reached.result (IsReached c.args.plan.now c.args.modules.now) (StandsIn c.args.plan.now)
    (λ end is. is.kept.stands) c.end_reached.ensures.reached

pub returns-clause-only : goal.returns-clause-only
returns-clause-only c =
    never_lines c.args.plan.now c.args.modules.now c.args.report.now c.end_reached.result c.end_reached.ensures.fault
