use Rattle.cfi_world.proofs.RetryLemmas.{found_may, found_turns, parked_ends, parked_may, parked_turns}
use Rattle.cfi_world.proofs.laws.a_parked_guest_hinders_no_update.Goals as goal

pub returns-clause-may : goal.returns-clause-may
returns-clause-may c = parked_may

pub returns-clause-turns : goal.returns-clause-turns
returns-clause-turns c = parked_turns

pub returns-clause-ends : goal.returns-clause-ends
returns-clause-ends c = parked_ends

pub returns-clause-found_may : goal.returns-clause-found_may
returns-clause-found_may c = found_may

pub returns-clause-found : goal.returns-clause-found
returns-clause-found c = found_turns
