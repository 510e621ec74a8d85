use Rattle.cfi_types.proofs.KeepLemmas.{all_stay}
use Rattle.cfi_types.proofs.partition.Parts.divide.Goals as goal

pub returns-then-are_settled-clause-divided : goal.returns-then-are_settled-clause-divided
returns-then-are_settled-clause-divided c =
    all_stay c.args.self.now.parts.items c.args.nodes.now c.requires.whole.below
