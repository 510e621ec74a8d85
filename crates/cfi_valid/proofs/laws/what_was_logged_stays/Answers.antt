use Rattle.cfi_valid.proofs.GrowthLemmas.{along_later, loaded_stays}
use Rattle.cfi_valid.proofs.LiveLemmas.{live_stays}
use Rattle.cfi_valid.proofs.LogGrowth.{log_stays}
use Rattle.cfi_valid.proofs.laws.what_was_logged_stays.Goals as goal

pub returns-clause-later : goal.returns-clause-later
returns-clause-later c = λ plan modules old new journal along. along_later plan modules old new journal along

pub returns-clause-loaded : goal.returns-clause-loaded
returns-clause-loaded c = loaded_stays

pub returns-clause-live : goal.returns-clause-live
returns-clause-live c = live_stays

pub returns-clause-log : goal.returns-clause-log
returns-clause-log c = log_stays
