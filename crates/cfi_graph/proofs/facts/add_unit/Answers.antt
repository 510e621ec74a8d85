use Rattle.cfi_graph.proofs.BoundLemmas.{word_within}
use Rattle.cfi_graph.proofs.facts.add_unit.Goals as goal

pub add_jump-requires-clause-within : goal.add_jump-requires-clause-within
add_jump-requires-clause-within c =
    word_within c.args.placed.now c.requires.read.shaped c.args.spot.now.at c.args.spot.now.unit c.requires.stands
