use Rattle.cfi_world.proofs.AskLemmas.{asks_only, opening_asks}
use Rattle.cfi_world.proofs.laws.an_open_asks_for_its_answer.Goals as goal

pub returns-clause-asks : goal.returns-clause-asks
returns-clause-asks c = λ w guest number is. opening_asks w guest number is

pub returns-clause-only : goal.returns-clause-only
returns-clause-only c = λ w guest other number is. asks_only w guest other number is
