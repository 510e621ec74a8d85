use Rattle.cfi_valid.proofs.JournalLemmas.{journal_once}
use Rattle.cfi_valid.proofs.laws.journals_lead_to_one_state.Goals as goal

pub returns : goal.returns
returns c = journal_once
