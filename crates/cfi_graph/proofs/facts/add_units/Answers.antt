use Rattle.std.proofs.Common.{◌≡◌, ◌∙◌, length, sym, subst, arith}
use Rattle.cfi_unit.specs.Code.{UnitCode}
use Rattle.cfi_unit.specs.Spots.{spots_of}
use Rattle.cfi_graph.specs.Facts.{IsUnitFact, Adds}
use Rattle.cfi_graph.proofs.AddsLemmas.{TellsBelow, adds_below_more}
use Rattle.std.proofs.lemmas.List.Sums.{sum_by-take-le}
use Rattle.cfi_graph.specs.inner.Imports.{imports_in}
use Rattle.cfi_graph.specs.inner.Told.{unit_told}
use Rattle.cfi_graph.proofs.TellLemmas.{SpotTells, stand_all, spot_tells_at, spots_tell, units_tell}
use Rattle.cfi_graph.proofs.ToldLemmas.{units_told, told_more}
use Rattle.cfi_graph.proofs.facts.add_units.Goals as goal

pub add_unit-requires-clause-stands : goal.add_unit-requires-clause-stands
add_unit-requires-clause-stands c =
    let m = c.args.placed.now in
    let code = c.requires.shaped.0 in
    let units = c.requires.shaped.1.units in
    let items = c.deref-spot-items.result.now in
    let are : items ≡ spots_of 0 code = c.deref-spot-items.ensures.value
    ∙ c.in_ok-spots.ensures code (subst (λ ws. UnitCode ws code) (sym c.as_slice.ensures) units) in
    stand_all (IsUnitFact (imports_in c.args.imports.now) c.args.classes.now c.args.number m) m code units items are
    c.loop-spot.spot-index _ c.loop-spot-test.true

-- this turn's unit tells its facts too
pub loop-spot-preserved : goal.loop-spot-preserved
loop-spot-preserved c =
    let m = c.args.placed.now in
    let items = c.deref-spot-items.result.now in
    let k = c.loop-spot.spot-index in
    let Told = IsUnitFact (imports_in c.args.imports.now) c.args.classes.now c.args.number c.args.placed.now in
    record {
      adds = adds_below_more c.args.facts.now.items c.loop-spot.facts.items c.add_unit.new.facts.items
          (SpotTells Told items) k c.loop-spot.invariant.adds
          (spot_tells_at Told items k _ c.loop-spot-test.true c.loop-spot.facts.items c.add_unit.new.facts.items
          c.in_ok-add_unit.ensures.adds);
      few = told_more (λ s. unit_told m s.unit) items k _ c.loop-spot-test.true _ _ _ c.loop-spot.invariant.few
          c.in_ok-add_unit.ensures.few;
    }

pub returns-clause-adds : goal.returns-clause-adds
returns-clause-adds c =
    let m = c.args.placed.now in
    let code = c.requires.shaped.0 in
    let units = c.requires.shaped.1.units in
    let items = c.deref-spot-items.result.now in
    let imports = imports_in c.args.imports.now in
    let Told = IsUnitFact (imports_in c.args.imports.now) c.args.classes.now c.args.number c.args.placed.now in
    let are : items ≡ spots_of 0 code = c.deref-spot-items.ensures.value
    ∙ c.in_ok-spots.ensures code (subst (λ ws. UnitCode ws code) (sym c.as_slice.ensures) units) in
    let all : c.loop-spot.spot-index ≡ length items = omega arith in
    units_tell imports c.args.classes.now c.args.number m c.args.facts.now.items c.loop-spot.facts.items
    (spots_tell Told m code units items are c.args.facts.now.items c.loop-spot.facts.items
    (subst (λ n. Adds c.args.facts.now.items c.loop-spot.facts.items (TellsBelow n (SpotTells Told items))) all
    c.loop-spot.invariant.adds))

pub returns-clause-few : goal.returns-clause-few
returns-clause-few c =
    let m = c.args.placed.now in
    let code = c.requires.shaped.0 in
    let units = c.requires.shaped.1.units in
    let items = c.deref-spot-items.result.now in
    let are : items ≡ spots_of 0 code = c.deref-spot-items.ensures.value
    ∙ c.in_ok-spots.ensures code (subst (λ ws. UnitCode ws code) (sym c.as_slice.ensures) units) in
    let told = units_told m code c.requires.shaped.1 items are in
    let part = sum_by-take-le (λ s. unit_told m s.unit) items c.loop-spot.spot-index in
    omega (arith, c.loop-spot.invariant.few, told, part)
