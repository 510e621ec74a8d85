use Rattle.std.proofs.Common.{sym, subst, leb, IsTrue}
use Rattle.std.specs.Prelude.{◌↔◌}
use Rattle.cfi_judge.specs.inner.Steps.{HasCount}
use Rattle.cfi_judge.proofs.StepLemmas.{count_alone}
use Rattle.cfi_judge.proofs.steps.has_count.Goals as goal

pub returns-then-alone : goal.returns-then-alone
returns-then-alone c =
    subst (λ n. IsTrue (leb c.args.over n) ↔ HasCount c.args.over c.args.most c.args.alone) (sym c.from.ensures)
    (count_alone c.args.over c.args.most c.args.alone c.if-alone.true)
