use Rattle.cfi_unit.specs.Unit.{IsUnit}
use Rattle.cfi_graph.proofs.HandMadeLemmas.{all_by_recursion}
use Rattle.cfi_calls.proofs.made.words_of.Goals as goal

pub spell-requires : goal.spell-requires
spell-requires c =
    all_by_recursion IsUnit c.args.code.now c.requires c.loop-unit.unit-index _ c.loop-unit-test.true
