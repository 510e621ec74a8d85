use Rattle.std.proofs.Common.{eqb}
use Rattle.std.proofs.lemmas.Bool.{eqb-true, eq-eqb}
use Rattle.cfi_judge.proofs.StepLemmas.{steps_told}
use Rattle.cfi_judge.proofs.steps.has_steps.Goals as goal

pub returns : goal.returns
returns c = λ course run.
    steps_told c.args.plan.now c.args.epoch c.args.code.now c.args.machine.now.state course c.args.part.now run
    (eqb c.args.epoch c.args.plan.now.first) (eqb-true _ _, eq-eqb _ _) c.has_counts.result c.has_counts.ensures
