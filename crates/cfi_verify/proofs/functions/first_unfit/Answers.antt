use Rattle.std.proofs.Common.{◌≡◌, ◌∙◌, ◌≤◌, ◌<◌, ℕ, length, get_or, ap, sym, refl, subst, inr, arith}
use Rattle.std.proofs.lemmas.Bool.{false≢true}
use Rattle.std.proofs.lemmas.Option.{slice_get_read}
use Rattle.cfi_aux.specs.declared.placed.PlacedFunction.{PlacedFunction}
use Rattle.cfi_verify.specs.Functions.{end_before, FunctionFits, FitsBehind}
use Rattle.cfi_verify.proofs.ListLemmas.{each_more, each_all}
use Rattle.cfi_verify.proofs.FunctionLemmas.{end_before-next, idle_same}
use Rattle.cfi_verify.proofs.functions.first_unfit.Goals as goal

-- this function fits too, and ends where it says
pub loop-number-preserved : goal.loop-number-preserved
loop-number-preserved c =
    let m = c.args.placed.now in
    let spots = c.args.spots.now in
    let number = c.loop-number.number in
    let item = c.index-functions-number.result in
    let within : number < length m.functions = omega (arith, ap length c.as_slice-functions.ensures) in
    let is : item ≡ get_or m.functions number item =
    c.index-functions-number.is ∙ ap (λ fs. get_or fs number item) c.as_slice-functions.ensures in
    let fits = c.fits_behind.ensures.0 c.if-not-fits_behind.false in
    record {
      here = sym (end_before-next m.functions number item
          (slice_get_read m.functions (length m.functions) number item refl within is));
      within = fits.within;
      fits = each_more m.functions (FitsBehind m spots) number item c.loop-number.invariant.fits
          (subst (λ (f : PlacedFunction). FunctionFits m spots (end_before m.functions number) f) is
          (subst (λ (k : ℕ). FunctionFits m spots k item) c.loop-number.invariant.here fits));
    }

pub returns-then-is_idle-clause-none : goal.returns-then-is_idle-clause-none
returns-then-is_idle-clause-none c =
    let m = c.args.placed.now in
    each_all m.functions (FitsBehind m c.args.spots.now) c.loop-number.number c.loop-number.invariant.fits
    (omega (arith, ap length c.as_slice-functions.ensures))

-- each function fits, and what stands behind the last one is not idle
pub returns-clause-some : goal.returns-clause-some
returns-clause-some c =
    let m = c.args.placed.now in
    let number = c.loop-number.number in
    let all : length m.functions ≤ number = omega (arith, ap length c.as_slice-functions.ensures) in
    let last : number ≡ length m.functions = omega (arith, ap length c.as_slice-functions.ensures) in
    inr (
      ap length c.as_slice-functions.ensures,
      each_all m.functions (FitsBehind m c.args.spots.now) number c.loop-number.invariant.fits all,
      λ idle.
          false≢true (sym c.if-is_idle.false
          ∙ c.is_idle.ensures.1 (idle_same c.args.spots.now _ _ _ _
          (ap (end_before m.functions) (sym last) ∙ sym c.loop-number.invariant.here)
          (sym (ap length c.as_slice.ensures)) idle)),
    )
