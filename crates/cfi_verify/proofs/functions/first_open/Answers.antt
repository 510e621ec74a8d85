use Rattle.std.proofs.Common.{◌∙◌, sym, refl, subst}
use Rattle.std.proofs.lemmas.Bool.{false≢true}
use Rattle.cfi_verify.specs.Functions.{EndsWell}
use Rattle.elf_read.specs.Lists.{own_number}
use Rattle.cfi_verify.proofs.ListLemmas.{each_more, each_all, first_here}
use Rattle.cfi_verify.proofs.functions.first_open.Goals as goal

pub returns-then-not-ends_well-clause-some : goal.returns-then-not-ends_well-clause-some
returns-then-not-ends_well-clause-some c =
    let number = c.loop-number.number in
    first_here c.args.functions.now (EndsWell c.args.spots.now) own_number number _ c.index-functions-number.result
    c.loop-number.invariant c.loop-number-test.true
    (λ well. false≢true (sym c.if-not-ends_well.true
    ∙ (c.ends_well.ensures number).1
    (subst (EndsWell c.args.spots.now number) (sym c.index-functions-number.is) well))) refl

pub loop-number-preserved : goal.loop-number-preserved
loop-number-preserved c =
    let number = c.loop-number.number in
    each_more c.args.functions.now (EndsWell c.args.spots.now) number c.index-functions-number.result
    c.loop-number.invariant
    (subst (EndsWell c.args.spots.now number) c.index-functions-number.is
    ((c.ends_well.ensures number).0 c.if-not-ends_well.false))

pub returns-clause-none : goal.returns-clause-none
returns-clause-none c =
    each_all c.args.functions.now (EndsWell c.args.spots.now) c.loop-number.number c.loop-number.invariant
    c.loop-number-test.false
