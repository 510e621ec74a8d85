use Rattle.cfi_valid.proofs.SeriesLemmas.{journal_series}
use Rattle.cfi_valid.proofs.laws.journals_make_a_series.Goals as goal

pub returns : goal.returns
returns c = journal_series
