use Rattle.cfi_file_law.proofs.SourceExampleLemmas.{assembled, with-records, few}
use Rattle.cfi_file_law.proofs.ShortLemmas.{return-short}
use Rattle.cfi_file_law.proofs.laws.some_source_is_assembled.Goals as goal

pub returns-clause-assembled : goal.returns-clause-assembled
returns-clause-assembled c = assembled

pub returns-clause-records : goal.returns-clause-records
returns-clause-records c = with-records

pub returns-clause-few : goal.returns-clause-few
returns-clause-few c = few

pub returns-clause-read : goal.returns-clause-read
returns-clause-read c = return-short
