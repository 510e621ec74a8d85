use Rattle.cfi_valid.proofs.example.TableLemmas.{valid, no_more}
use Rattle.cfi_valid.proofs.laws.some_report_with_tables_is_valid.Goals as goal

pub returns-clause-valid : goal.returns-clause-valid
returns-clause-valid c = valid

pub returns-clause-more : goal.returns-clause-more
returns-clause-more c = no_more
