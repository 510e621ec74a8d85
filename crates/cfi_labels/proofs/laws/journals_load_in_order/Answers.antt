use Rattle.cfi_labels.proofs.LoadedLemmas.{journal_order}
use Rattle.cfi_labels.proofs.laws.journals_load_in_order.Goals as goal

pub returns : goal.returns
returns c = journal_order
