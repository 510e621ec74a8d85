use Rattle.std.proofs.Common.{◌-◌, IsTrue, arith, subst}
use Rattle.std.specs.Prelude.{◌↔◌}
use Rattle.cfi_judge.specs.inner.Steps.{IsAlone}
use Rattle.cfi_judge.proofs.StepLemmas.{counts_told}
use Rattle.cfi_judge.proofs.steps.has_counts.Goals as goal

pub returns-in-Some : goal.returns-in-Some
returns-in-Some c =
    let last = c.args.machine.now.state in
    let part = c.args.part.now in
    let alone = subst (λ log. IsTrue c.is_alone-alone.result ↔ IsAlone c.args.code.now last c.args.single log)
    c.as_slice.ensures c.is_alone-alone.ensures in
    counts_told c.args.fuel c.args.single c.args.code.now last part c.is_alone-alone.result alone c.in-Some.most
    c.in-Some.ensures.some (c.from-steps.result - c.steps-in-Some.result)
    (omega (arith, c.from-steps.ensures, c.steps.ensures, c.steps-in-Some.ensures, c.if-steps.false))
    (c.is_within.ensures.0 c.if-not-is_within.false) c.has_count.result c.has_count.ensures
