use Rattle.cfi_unit.proofs.CodeLemmas.{BeginsAt-one}
use Rattle.cfi_unit.proofs.laws.one_unit.Goals as goal

pub returns : goal.returns
returns c = BeginsAt-one
