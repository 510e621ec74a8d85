use Rattle.cfi_valid.specs.Parts.{FitsEndedSteps}
use Rattle.cfi_judge.proofs.RunLemmas.{has_run, not_ended}
use Rattle.cfi_judge.proofs.RefutesLemmas.{not_answered}
use Rattle.cfi_judge.proofs.runs.outcome_at.Goals as goal

pub returns-then-not-has_ended : goal.returns-then-not-has_ended
returns-then-not-has_ended c = λ course is same.
    let part = c.args.part.now in
    not_ended c.args.setting.now part c.args.machine.now.state c.requires course is c.has_ended.result
    c.if-not-has_ended.true (c.has_ended.ensures course (c.requires course is).comes)

pub returns-then-not-has_steps : goal.returns-then-not-has_steps
returns-then-not-has_steps c = λ course is same.
    let part = c.args.part.now in
    let run = has_run c.args.setting.now part c.args.machine.now.state c.requires course is c.args.epoch same in (
      (c.has_ended.ensures course (c.requires course is).comes).0 c.if-not-has_ended.false,
      not_answered c.has_steps.result (FitsEndedSteps course part) c.if-not-has_steps.true
          (c.has_steps.ensures course run),
    )

pub returns : goal.returns
returns c = λ course is same.
    let part = c.args.part.now in
    let run = has_run c.args.setting.now part c.args.machine.now.state c.requires course is c.args.epoch same in (
      (c.has_ended.ensures course (c.requires course is).comes).0 c.if-not-has_ended.false,
      (c.has_steps.ensures course run).0 c.if-not-has_steps.false,
    )
