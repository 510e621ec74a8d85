use Rattle.std.proofs.Common.{List, sym, subst}
use Rattle.cfi_verify.specs.declared.checks.CheckSpot.{CheckSpot}
use Rattle.elf_read.specs.Lists.{Each, IsFirstBreak}
use Rattle.cfi_verify.specs.Branches.{NamesSlot}
use Rattle.cfi_verify.specs.Fault.{check_place}
use Rattle.cfi_verify.specs.inner.Places.{AreSmallChecks, AreInRange}
use Rattle.cfi_verify.proofs.SpotLemmas.{spots-rising, checks-small}
use Rattle.cfi_verify.proofs.FunctionLemmas.{in_range}
use Rattle.cfi_verify.proofs.RowLemmas.{clear_four, clear_five, clear_six, first_slot, first_functions, first_open}
use Rattle.cfi_verify.proofs.verifier.check_layout.Goals as goal

pub first_misnamed-requires : goal.first_misnamed-requires
first_misnamed-requires c =
    subst AreSmallChecks (sym c.requires.checks)
    (checks-small c.args.new.now.words c.args.spots.now c.requires.units c.requires.words)

pub returns-in-Some-clause-fault : goal.returns-in-Some-clause-fault
returns-in-Some-clause-fault c = λ loaded.
    let m = c.args.new.now in
    let spots = c.args.spots.now in
    first_slot m loaded spots c.requires.units (clear_four m loaded spots c.requires.units c.requires.some)
    c.in-Some.place
    (subst (λ (xs : List CheckSpot). IsFirstBreak xs check_place (NamesSlot m) c.in-Some.place) c.requires.checks
    c.in-Some.ensures.some)

pub first_unfit-requires-clause-rising : goal.first_unfit-requires-clause-rising
first_unfit-requires-clause-rising c = spots-rising c.args.new.now.words c.args.spots.now c.requires.units

pub returns-in-Some-first_unfit-clause-fault : goal.returns-in-Some-first_unfit-clause-fault
returns-in-Some-first_unfit-clause-fault c = λ loaded.
    let m = c.args.new.now in
    let spots = c.args.spots.now in
    let slots = subst (λ (xs : List CheckSpot). Each xs (NamesSlot m)) c.requires.checks c.in_default.ensures.none in
    first_functions m loaded spots c.requires.units
    (clear_five m loaded spots c.requires.units c.requires.some slots) c.in-Some-first_unfit.number
    c.in-Some-first_unfit.ensures.some

pub first_open-requires-clause-fits : goal.first_open-requires-clause-fits
first_open-requires-clause-fits c =
    subst AreInRange (sym c.as_slice.ensures)
    (in_range c.args.new.now c.args.spots.now c.in_default-first_unfit.ensures.none c.requires.words)

pub first_open-requires-clause-rising : goal.first_open-requires-clause-rising
first_open-requires-clause-rising c = spots-rising c.args.new.now.words c.args.spots.now c.requires.units

pub returns-in-Some-first_open-clause-fault : goal.returns-in-Some-first_open-clause-fault
returns-in-Some-first_open-clause-fault c = λ loaded.
    let m = c.args.new.now in
    let spots = c.args.spots.now in
    let slots = subst (λ (xs : List CheckSpot). Each xs (NamesSlot m)) c.requires.checks c.in_default.ensures.none in
    let fit = c.in_default-first_unfit.ensures in
    first_open m loaded spots c.requires.units
    (clear_six m loaded spots c.requires.units c.requires.some slots (fit.none, fit.idle)) c.in-Some-first_open.number
    (rw c.as_slice.ensures at c.in-Some-first_open.ensures.some)
