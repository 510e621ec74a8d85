use Rattle.cfi_instr_law.proofs.ExampleLemmas.{made}
use Rattle.cfi_instr_law.proofs.laws.some_module_is_instrumented.Goals as goal

pub returns : goal.returns
returns c = made
