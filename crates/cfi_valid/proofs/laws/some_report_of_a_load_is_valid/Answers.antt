use Rattle.cfi_valid.proofs.example.LoadLemmas.{valid, one_epoch}
use Rattle.cfi_valid.proofs.laws.some_report_of_a_load_is_valid.Goals as goal

pub returns-clause-valid : goal.returns-clause-valid
returns-clause-valid c = valid

pub returns-clause-epoch : goal.returns-clause-epoch
returns-clause-epoch c = one_epoch
