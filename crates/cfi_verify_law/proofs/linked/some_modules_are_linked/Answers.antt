use Rattle.cfi_verify_law.proofs.ExampleLemmas.{two_parts}
use Rattle.cfi_verify_law.proofs.linked.some_modules_are_linked.Goals as goal

pub returns : goal.returns
returns c = two_parts
