use Rattle.std.proofs.Common.{◌≡◌, length, Some, refl, sym, subst, arith}
use Rattle.std.specs.Prelude.{slice_get}
use Rattle.std.proofs.lemmas.Option.{slice_get_read}
use Rattle.cfi_graph.specs.Facts.{Adds}
use Rattle.cfi_graph.specs.Shaped.{IsShaped}
use Rattle.cfi_graph.specs.inner.Imports.{imports_in}
use Rattle.cfi_graph.proofs.AddsLemmas.{TellsBelow, adds_below_more}
use Rattle.cfi_graph.proofs.MetLemmas.{NumberMeets, number_meets, modules_meet}
use Rattle.cfi_graph.proofs.more.add_met_modules.Goals as goal

pub add_met_units-requires-clause-shaped : goal.add_met_units-requires-clause-shaped
add_met_units-requires-clause-shaped c =
    let m = c.placed-item.result in
    subst IsShaped (sym c.placed-item.is) (c.requires.shaped c.loop-placed.placed-index m c.loop-placed-test.true)

-- this turn's module tells its facts too
pub loop-placed-preserved : goal.loop-placed-preserved
loop-placed-preserved c =
    let ms = c.args.modules.now in
    let k = c.loop-placed.placed-index in
    let m = c.placed-item.result in
    let before = imports_in c.args.before.now in
    let own = imports_in c.args.own.now in
    let is : slice_get ms k ≡ Some m = slice_get_read ms (length ms) k m refl c.loop-placed-test.true c.placed-item.is in
    adds_below_more c.args.facts.now.items c.loop-placed.facts.items c.add_met_units.new.facts.items
    (NumberMeets before own ms) k c.loop-placed.invariant
    (number_meets before own ms k m is c.loop-placed.facts.items c.add_met_units.new.facts.items
    c.in_ok-add_met_units.ensures)

pub returns : goal.returns
returns c =
    let ms = c.args.modules.now in
    let before = imports_in c.args.before.now in
    let own = imports_in c.args.own.now in
    let all : c.loop-placed.placed-index ≡ length ms = omega arith in
    modules_meet before own ms c.args.facts.now.items c.loop-placed.facts.items
    (subst (λ n. Adds c.args.facts.now.items c.loop-placed.facts.items (TellsBelow n (NumberMeets before own ms))) all
    c.loop-placed.invariant)
