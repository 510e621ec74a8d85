use Rattle.cfi_modules.proofs.NumberLemmas.{has_numbers}
use Rattle.cfi_modules.proofs.numbers.join_faults_have_numbers.Goals as goal

pub returns-clause-some : goal.returns-clause-some
returns-clause-some c = has_numbers
