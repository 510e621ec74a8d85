use Rattle.cfi_verify_law.proofs.VerifiedLemmas.{verified_or_first}
use Rattle.cfi_verify_law.proofs.verified.verified_or_first_fault.Goals as goal

pub returns : goal.returns
returns c = verified_or_first
