use Rattle.cfi_verify.proofs.ExampleLemmas.{verified}
use Rattle.cfi_verify.proofs.laws.some_module_verifies.Goals as goal

pub returns : goal.returns
returns c = verified
