use Rattle.cfi_unit.proofs.CodeLemmas.{UnitCode-one}
use Rattle.cfi_unit.proofs.laws.one_code.Goals as goal

pub returns : goal.returns
returns c = UnitCode-one
