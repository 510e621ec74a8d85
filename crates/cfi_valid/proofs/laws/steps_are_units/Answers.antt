use Rattle.cfi_valid.proofs.LawLemmas.{step_unit}
use Rattle.cfi_valid.proofs.laws.steps_are_units.Goals as goal

pub returns : goal.returns
returns c = step_unit
