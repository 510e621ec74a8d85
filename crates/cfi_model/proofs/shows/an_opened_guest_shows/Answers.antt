use Rattle.cfi_model.proofs.FixedLemmas.{fixed_history, opened_ready}
use Rattle.cfi_model.proofs.shows.an_opened_guest_shows.Goals as goal

pub returns-clause-history : goal.returns-clause-history
returns-clause-history c = fixed_history

pub returns-clause-ready : goal.returns-clause-ready
returns-clause-ready c = opened_ready
