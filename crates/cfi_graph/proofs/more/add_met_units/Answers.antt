use Rattle.std.proofs.Common.{◌≡◌, ◌∙◌, length, sym, subst, arith}
use Rattle.cfi_unit.specs.Code.{UnitCode}
use Rattle.cfi_unit.specs.Spots.{spots_of}
use Rattle.cfi_graph.specs.Facts.{Adds}
use Rattle.cfi_graph.specs.More.{IsMetFact, MeetsOwn}
use Rattle.cfi_graph.specs.inner.Imports.{imports_in}
use Rattle.cfi_graph.proofs.AddsLemmas.{TellsBelow, adds_none, adds_below_more}
use Rattle.cfi_graph.proofs.MetLemmas.{met_units}
use Rattle.cfi_graph.proofs.TellLemmas.{SpotTells, stand_all, spot_tells_at, spots_tell}
use Rattle.cfi_graph.proofs.more.add_met_units.Goals as goal

-- no branch imports such a name
pub returns-then-not-some_meets_own : goal.returns-then-not-some_meets_own
returns-then-not-some_meets_own c =
    adds_none c.args.facts.now.items
    (MeetsOwn (imports_in c.args.before.now) (imports_in c.args.own.now) c.args.placed.now)
    (c.some_meets_own.ensures c.if-not-some_meets_own.true)

pub add_met_unit-requires-clause-stands : goal.add_met_unit-requires-clause-stands
add_met_unit-requires-clause-stands c =
    let m = c.args.placed.now in
    let code = c.requires.shaped.0 in
    let units = c.requires.shaped.1.units in
    let items = c.deref-spot-items.result.now in
    let are : items ≡ spots_of 0 code = c.deref-spot-items.ensures.value
    ∙ c.in_ok-spots.ensures code (subst (λ ws. UnitCode ws code) (sym c.as_slice.ensures) units) in
    stand_all (IsMetFact (imports_in c.args.before.now) (imports_in c.args.own.now) m) m code units items are
    c.loop-spot.spot-index _ c.loop-spot-test.true

-- this turn's unit tells its facts too
pub loop-spot-preserved : goal.loop-spot-preserved
loop-spot-preserved c =
    let items = c.deref-spot-items.result.now in
    let k = c.loop-spot.spot-index in
    let Told = IsMetFact (imports_in c.args.before.now) (imports_in c.args.own.now) c.args.placed.now in
    adds_below_more c.args.facts.now.items c.loop-spot.facts.items c.add_met_unit.new.facts.items (SpotTells Told items) k
    c.loop-spot.invariant
    (spot_tells_at Told items k _ c.loop-spot-test.true c.loop-spot.facts.items c.add_met_unit.new.facts.items
    c.in_ok-add_met_unit.ensures)

pub returns : goal.returns
returns c =
    let m = c.args.placed.now in
    let code = c.requires.shaped.0 in
    let units = c.requires.shaped.1.units in
    let items = c.deref-spot-items.result.now in
    let before = imports_in c.args.before.now in
    let own = imports_in c.args.own.now in
    let Told = IsMetFact (imports_in c.args.before.now) (imports_in c.args.own.now) c.args.placed.now in
    let are : items ≡ spots_of 0 code = c.deref-spot-items.ensures.value
    ∙ c.in_ok-spots.ensures code (subst (λ ws. UnitCode ws code) (sym c.as_slice.ensures) units) in
    let all : c.loop-spot.spot-index ≡ length items = omega arith in
    met_units before own m c.args.facts.now.items c.loop-spot.facts.items
    (spots_tell Told m code units items are c.args.facts.now.items c.loop-spot.facts.items
    (subst (λ n. Adds c.args.facts.now.items c.loop-spot.facts.items (TellsBelow n (SpotTells Told items))) all
    c.loop-spot.invariant))
