use Rattle.std.proofs.Common.{[]}
use Rattle.cfi_file_law.proofs.CallVerifiedLemmas.{verifies}
use Rattle.cfi_file_law.proofs.laws.some_call_verifies.Goals as goal

pub returns : goal.returns
returns c = verifies (c.instrumented_are_proper.ensures _ _ _ _ _ c.some_call_is_instrumented.ensures [])
