use Rattle.cfi_verify.proofs.RowLemmas.{no_fault}
use Rattle.cfi_verify_law.proofs.VerifiedLemmas.{verified}
use Rattle.cfi_verify_law.proofs.verified.no_fault_is_verified.Goals as goal

pub returns-clause-verified : goal.returns-clause-verified
returns-clause-verified c = verified

pub returns-clause-no_fault : goal.returns-clause-no_fault
returns-clause-no_fault c = λ m loaded v. no_fault m loaded v.0 v.1
