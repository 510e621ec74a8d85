use Rattle.cfi_instr_law.proofs.TypedLemmas.{stay-typed}
use Rattle.cfi_instr_law.proofs.laws.instrumented_stay_typed.Goals as goal

pub returns : goal.returns
returns c = stay-typed
