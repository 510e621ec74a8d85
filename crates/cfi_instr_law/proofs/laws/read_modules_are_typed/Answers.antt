use Rattle.cfi_instr_law.proofs.TypedLemmas.{typed}
use Rattle.cfi_instr_law.proofs.laws.read_modules_are_typed.Goals as goal

pub returns : goal.returns
returns c = typed
