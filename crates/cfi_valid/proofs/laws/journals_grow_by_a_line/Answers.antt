use Rattle.cfi_valid.proofs.JournalLemmas.{along_more, along_last}
use Rattle.cfi_valid.proofs.laws.journals_grow_by_a_line.Goals as goal

pub returns-clause-more : goal.returns-clause-more
returns-clause-more c = λ plan modules old mid new journal entry along leads.
    along_more plan modules old journal entry mid new along leads

pub returns-clause-last : goal.returns-clause-last
returns-clause-last c = λ plan modules old new journal entry along. along_last plan modules old journal entry new along
