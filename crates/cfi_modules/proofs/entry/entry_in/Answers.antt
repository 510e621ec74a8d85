use Rattle.std.proofs.Common.{◌≡◌, ◌<◌, ◌≤◌, length, get_or, Some, refl, ap, sym, subst, ◌∙◌, ⊎_elim, arith}
use Rattle.std.specs.List.{slice_get}
use Rattle.std.proofs.lemmas.Bool.{cases_lt}
use Rattle.std.proofs.lemmas.Option.{same_Some, slice_get_within, slice_get_read, get_or_from_slice_get}
use Rattle.cfi_aux.specs.declared.placed.Placed.{Placed}
use Rattle.cfi_modules.specs.Entry.{IsGlobalOf, IsFirstOf, HasNoneOf}
use Rattle.cfi_modules.proofs.entry.entry_in.Goals as goal

-- one module more has none
pub loop-placed-preserved : goal.loop-placed-preserved
loop-placed-preserved c = λ k m below is.
    let at = c.loop-placed.placed-index in
    let item = c.placed-item.result in
    ⊎_elim (λ (less : k < at). c.loop-placed.invariant k m less is)
    (λ (more : at ≤ k).
    let here : k ≡ at = omega (arith, more, below) in
    let same : item ≡ m =
    c.placed-item.is ∙ ap (λ n. get_or c.args.modules.now n item) (sym here)
    ∙ get_or_from_slice_get c.args.modules.now k m item is in
    subst (HasNoneOf (IsGlobalOf c.args.name.now)) same c.in_default.ensures.none)
    (cases_lt k at)

-- this one has one, and those before it have none
pub returns-in-Some-clause-some : goal.returns-in-Some-clause-some
returns-in-Some-clause-some c =
    let ms = c.args.modules.now in
    let at = c.loop-placed.placed-index in
    let item = c.placed-item.result in
    record {
      number = at;
      owner = item;
      is = slice_get_read ms (length ms) at item refl c.loop-placed-test.true c.placed-item.is;
      entry = c.in-Some.ensures.some;
      first = λ k n below there. c.loop-placed.invariant k n below there;
    }

pub returns-in-Some-clause-only : goal.returns-in-Some-clause-only
returns-in-Some-clause-only c = λ address e.
    let ms = c.args.modules.now in
    let at = c.loop-placed.placed-index in
    let item = c.placed-item.result in
    let is : slice_get ms at ≡ Some item =
    slice_get_read ms (length ms) at item refl c.loop-placed-test.true c.placed-item.is in
    let own = c.in-Some.ensures.some in
    let entry = e.entry in
    ⊎_elim
    (λ (less : e.number < at).
    absurd (c.loop-placed.invariant e.number e.owner less e.is entry.number entry.function entry.is entry.holds))
    (λ (more : at ≤ e.number). ⊎_elim
    (λ (less : at < e.number). absurd (e.first at item less is own.number own.function own.is own.holds))
    (λ (least : e.number ≤ at).
    let here : e.number ≡ at = omega (arith, more, least) in
    let same : e.owner ≡ item = same_Some e.owner item (sym e.is ∙ ap (slice_get ms) here ∙ is) in
    c.in-Some.ensures.only address
    (subst (λ (m : Placed). IsFirstOf (IsGlobalOf c.args.name.now) m address) same entry))
    (cases_lt at e.number))
    (cases_lt e.number at)

-- none of them has one
pub returns-clause-only : goal.returns-clause-only
returns-clause-only c = λ address entry.
    let within = slice_get_within c.args.modules.now entry.number entry.owner entry.is in
    let first = entry.entry in
    absurd (c.loop-placed.invariant entry.number entry.owner (omega (arith, within, c.loop-placed-test.false)) entry.is
    first.number first.function first.is first.holds)
