use Rattle.std.proofs.Common.{List, ◌≤◌, length, ap, sym, subst, arith}
use Rattle.cfi_verify.specs.declared.checks.CheckSpot.{CheckSpot}
use Rattle.elf_read.specs.Lists.{Each, IsFirstBreak, own_number}
use Rattle.cfi_verify.specs.Branches.{KindFits, EntriesFit}
use Rattle.cfi_verify.specs.inner.Places.{AreSmallChecks, IsFirstMisfit}
use Rattle.cfi_verify.proofs.SpotLemmas.{spots-rising, spots-small, checks-small, checks-few}
use Rattle.cfi_verify.proofs.FunctionLemmas.{in_order, in_range}
use Rattle.cfi_verify.proofs.RowLemmas.{clear_laid, clear_eight, clear_nine, first_target, first_kinds, first_switch}
use Rattle.cfi_verify.proofs.verifier.check_flow.Goals as goal

pub first_stray-requires-clause-order : goal.first_stray-requires-clause-order
first_stray-requires-clause-order c = in_order c.args.new.now c.args.spots.now c.requires.laid.functions

pub first_stray-requires-clause-fits : goal.first_stray-requires-clause-fits
first_stray-requires-clause-fits c =
    in_range c.args.new.now c.args.spots.now c.requires.laid.functions c.requires.words

pub first_stray-requires-clause-rising : goal.first_stray-requires-clause-rising
first_stray-requires-clause-rising c = spots-rising c.args.new.now.words c.args.spots.now c.requires.laid.units

pub first_stray-requires-clause-small : goal.first_stray-requires-clause-small
first_stray-requires-clause-small c =
    spots-small c.args.new.now.words c.args.spots.now c.requires.laid.units c.requires.words

pub returns-in-Some-clause-fault : goal.returns-in-Some-clause-fault
returns-in-Some-clause-fault c = λ loaded all.
    let m = c.args.new.now in
    let spots = c.args.spots.now in
    first_target m loaded spots c.requires.laid.units (clear_laid m loaded spots c.requires.laid) c.in-Some.place
    (c.in-Some.ensures.some loaded all)

pub first_misfit-requires-clause-small : goal.first_misfit-requires-clause-small
first_misfit-requires-clause-small c =
    subst AreSmallChecks (sym c.requires.checks)
    (checks-small c.args.new.now.words c.args.spots.now c.requires.laid.units c.requires.words)

pub returns-in-Some-first_misfit-clause-fault : goal.returns-in-Some-first_misfit-clause-fault
returns-in-Some-first_misfit-clause-fault c = λ loaded all.
    let m = c.args.new.now in
    let spots = c.args.spots.now in
    let are = c.requires.laid.units in
    let place = c.in-Some-first_misfit.place in
    let clear = clear_eight m loaded spots are (clear_laid m loaded spots c.requires.laid)
    (c.in_default.ensures.none loaded all) in
    first_kinds m loaded spots are clear place
    (subst (λ (xs : List CheckSpot). IsFirstMisfit m xs place) c.requires.checks c.in-Some-first_misfit.ensures.some)

pub first_bad_switch-requires-clause-count : goal.first_bad_switch-requires-clause-count
first_bad_switch-requires-clause-count c =
    omega (
      arith,
      ap length c.requires.checks,
      checks-few c.args.new.now.words c.args.spots.now c.requires.laid.units,
      c.requires.words,
    )

pub first_bad_switch-requires-clause-order : goal.first_bad_switch-requires-clause-order
first_bad_switch-requires-clause-order c = in_order c.args.new.now c.args.spots.now c.requires.laid.functions

pub first_bad_switch-requires-clause-fits : goal.first_bad_switch-requires-clause-fits
first_bad_switch-requires-clause-fits c =
    in_range c.args.new.now c.args.spots.now c.requires.laid.functions c.requires.words

pub first_bad_switch-requires-clause-rising : goal.first_bad_switch-requires-clause-rising
first_bad_switch-requires-clause-rising c =
    spots-rising c.args.new.now.words c.args.spots.now c.requires.laid.units

pub returns-in-Some-first_bad_switch-clause-fault : goal.returns-in-Some-first_bad_switch-clause-fault
returns-in-Some-first_bad_switch-clause-fault c = λ loaded all.
    let m = c.args.new.now in
    let spots = c.args.spots.now in
    let are = c.requires.laid.units in
    let number = c.in-Some-first_bad_switch.number in
    let fit = c.in_default-first_misfit.ensures in
    let kinds = subst (λ (xs : List CheckSpot). Each xs (KindFits m)) c.requires.checks fit.none in
    let records = subst (λ (xs : List CheckSpot). length m.branches ≤ length xs) c.requires.checks fit.records in
    let clear = clear_nine m loaded spots are
    (clear_eight m loaded spots are (clear_laid m loaded spots c.requires.laid) (c.in_default.ensures.none loaded all))
    (kinds, records) in
    first_switch m loaded spots are clear number
    (subst (λ (xs : List CheckSpot). IsFirstBreak xs own_number (EntriesFit m spots) number) c.requires.checks
    c.in-Some-first_bad_switch.ensures.some)
