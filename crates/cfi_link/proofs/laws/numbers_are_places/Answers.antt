use Rattle.cfi_link.proofs.NumberLemmas.{numbered}
use Rattle.cfi_link.proofs.laws.numbers_are_places.Goals as goal

pub returns : goal.returns
returns c = numbered
