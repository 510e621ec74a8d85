use Rattle.cfi_unit.proofs.UnitLemmas.{size_pos}
use Rattle.cfi_unit.proofs.CodeLemmas.{BeginsAt-within}
use Rattle.cfi_unit.proofs.laws.unit_within.Goals as goal

pub returns-clause-some : goal.returns-clause-some
returns-clause-some c = size_pos

pub returns-clause-within : goal.returns-clause-within
returns-clause-within c = BeginsAt-within
