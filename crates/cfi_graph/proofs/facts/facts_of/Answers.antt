use Rattle.std.proofs.Common.{◌≡◌, [], length, Some, refl, subst, arith}
use Rattle.std.specs.Prelude.{slice_get}
use Rattle.std.proofs.lemmas.Option.{slice_get_read}
use Rattle.std.proofs.lemmas.List.Sums.{sum_by-take-le}
use Rattle.cfi_graph.proofs.ToldLemmas.{told_next}
use Rattle.cfi_graph.specs.Edges.{told_most}
use Rattle.cfi_graph.specs.Facts.{Adds}
use Rattle.cfi_graph.specs.inner.Imports.{imports_in}
use Rattle.cfi_graph.proofs.AddsLemmas.{TellsBelow, adds_below_more}
use Rattle.cfi_graph.proofs.TellLemmas.{OwnerTells, owner_tells, all_told}
use Rattle.cfi_graph.proofs.facts.facts_of.Goals as goal

pub add_module-requires : goal.add_module-requires
add_module-requires c =
    let ms = c.args.modules.now in
    let m = c.index-modules-number.result in
    let is : slice_get ms c.loop-number.number ≡ Some m =
    slice_get_read ms (length ms) c.loop-number.number m refl c.loop-number-test.true c.index-modules-number.is in
    c.requires.read c.loop-number.number m is

-- this turn's module tells its facts too
pub loop-number-preserved : goal.loop-number-preserved
loop-number-preserved c =
    let ms = c.args.modules.now in
    let imports = imports_in c.args.imports.now in
    let classes = c.args.classes.now in
    let number = c.loop-number.number in
    let m = c.index-modules-number.result in
    let is : slice_get ms number ≡ Some m =
    slice_get_read ms (length ms) number m refl c.loop-number-test.true c.index-modules-number.is in
    record {
      adds = adds_below_more [] c.loop-number.facts.items c.add_module.new.facts.items (OwnerTells ms imports classes) number
          c.loop-number.invariant.adds
          (owner_tells ms imports classes number m is c.loop-number.facts.items c.add_module.new.facts.items
          c.in_ok-add_module.ensures.adds);
      few = told_next told_most ms number m is _ _ c.loop-number.invariant.few c.in_ok-add_module.ensures.few;
    }

pub returns-clause-facts : goal.returns-clause-facts
returns-clause-facts c =
    let ms = c.args.modules.now in
    let imports = imports_in c.args.imports.now in
    let classes = c.args.classes.now in
    let all : c.loop-number.number ≡ length ms = omega arith in
    all_told ms imports classes c.loop-number.facts.items
    (subst (λ n. Adds [] c.loop-number.facts.items (TellsBelow n (OwnerTells ms imports classes))) all c.loop-number.invariant.adds)

pub returns-clause-few : goal.returns-clause-few
returns-clause-few c =
    let part = sum_by-take-le told_most c.args.modules.now c.loop-number.number in
    omega (arith, c.loop-number.invariant.few, part)
