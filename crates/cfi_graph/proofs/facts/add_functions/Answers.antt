use Rattle.std.proofs.Common.{◌≡◌, length, Some, refl, ap, subst, arith}
use Rattle.std.specs.Prelude.{slice_get}
use Rattle.std.proofs.lemmas.Option.{slice_get_read}
use Rattle.cfi_graph.specs.Facts.{Adds}
use Rattle.cfi_graph.proofs.AddsLemmas.{TellsBelow, adds_below_more}
use Rattle.cfi_graph.proofs.TellLemmas.{NumberTells, number_tells, functions_tell}
use Rattle.cfi_graph.proofs.facts.add_functions.Goals as goal

-- this turn's function tells its facts too
pub loop-function-preserved : goal.loop-function-preserved
loop-function-preserved c =
    let m = c.args.placed.now in
    let k = c.loop-function.function-index in
    let f = c.function-item.result in
    let items = c.as_slice-function-items.result.now in
    let read : slice_get items k ≡ Some f =
    slice_get_read items (length items) k f refl c.loop-function-test.true c.function-item.is in
    let is : slice_get m.functions k ≡ Some f =
    subst (λ fs. slice_get fs k ≡ Some f) c.as_slice-function-items.ensures read in
    record {
      adds = adds_below_more c.args.facts.now.items c.loop-function.facts.items c.add_function.new.facts.items
          (NumberTells c.args.classes.now c.args.number m) k c.loop-function.invariant.adds
          (number_tells c.args.classes.now c.args.number m k f is c.loop-function.facts.items
          c.add_function.new.facts.items c.in_ok-add_function.ensures.adds);
      few = omega (arith, c.loop-function.invariant.few, c.in_ok-add_function.ensures.few);
    }

pub returns-clause-adds : goal.returns-clause-adds
returns-clause-adds c =
    let m = c.args.placed.now in
    let all : c.loop-function.function-index ≡ length m.functions =
    omega (arith, ap (λ fs. length fs) c.as_slice-function-items.ensures) in
    functions_tell c.args.classes.now c.args.number m c.args.facts.now.items c.loop-function.facts.items
    (subst (λ n. Adds c.args.facts.now.items c.loop-function.facts.items
    (TellsBelow n (NumberTells c.args.classes.now c.args.number m))) all c.loop-function.invariant.adds)

pub returns-clause-few : goal.returns-clause-few
returns-clause-few c =
    let all : c.loop-function.function-index ≡ length c.args.placed.now.functions =
    omega (arith, ap (λ fs. length fs) c.as_slice-function-items.ensures) in
    omega (arith, all, c.loop-function.invariant.few)
