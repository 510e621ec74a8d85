use Rattle.cfi_file_law.proofs.CallPlacedLemmas.{made}
use Rattle.cfi_file_law.proofs.laws.some_call_is_instrumented.Goals as goal

pub returns : goal.returns
returns c = made
