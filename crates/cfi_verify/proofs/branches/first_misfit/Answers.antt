use Rattle.std.proofs.Common.{◌*◌, length, inr, ap, arith}
use Rattle.cfi_verify.specs.Branches.{KindFits}
use Rattle.cfi_verify.proofs.ListLemmas.{each_more, each_all}
use Rattle.cfi_verify.proofs.branches.first_misfit.Goals as goal

-- this check fits too
pub loop-number-preserved : goal.loop-number-preserved
loop-number-preserved c =
    let m = c.args.placed.now in
    each_more c.args.checks.now (KindFits m) c.loop-number.number _ c.loop-number.invariant
    (c.kind_fits.ensures.0 c.if-not-kind_fits.false)

-- each one fits, and records are left over
pub returns-then-checks-as_slice-clause-some : goal.returns-then-checks-as_slice-clause-some
returns-then-checks-as_slice-clause-some c =
    let m = c.args.placed.now in
    inr (
      ap (λ n. 4 * n) (ap length c.as_slice-then-checks-as_slice.ensures),
      each_all c.args.checks.now (KindFits m) c.loop-number.number c.loop-number.invariant (omega arith),
      omega (arith, ap length c.as_slice.ensures),
    )

-- each one fits
pub returns-clause-none : goal.returns-clause-none
returns-clause-none c =
    each_all c.args.checks.now (KindFits c.args.placed.now) c.loop-number.number c.loop-number.invariant
    (omega arith)
