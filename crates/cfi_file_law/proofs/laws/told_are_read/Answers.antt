use Rattle.cfi_file_law.proofs.ToldLemmas.{short-read, long-refused}
use Rattle.cfi_file_law.proofs.laws.told_are_read.Goals as goal

pub returns-clause-short : goal.returns-clause-short
returns-clause-short c = λ shelf shelf' name file found tells steady is short.
    short-read shelf shelf' name file tells found steady is short

pub returns-clause-long : goal.returns-clause-long
returns-clause-long c = λ shelf shelf' name file found tells steady is long.
    long-refused shelf shelf' name file tells found steady is long
