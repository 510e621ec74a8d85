use Rattle.cfi_world.proofs.ExampleLemmas.{last_can, last_events_may, last_turns, some_can, some_may_begin, some_events_may, some_turns}
use Rattle.cfi_world.proofs.laws.some_world_turns.Goals as goal

pub returns-clause-opens : goal.returns-clause-opens
returns-clause-opens c = some_can

pub returns-clause-begins : goal.returns-clause-begins
returns-clause-begins c = some_may_begin

pub returns-clause-turns : goal.returns-clause-turns
returns-clause-turns c = some_turns

pub returns-clause-may : goal.returns-clause-may
returns-clause-may c = some_events_may

pub returns-clause-last : goal.returns-clause-last
returns-clause-last c = last_can

pub returns-clause-last_may : goal.returns-clause-last_may
returns-clause-last_may c = last_events_may

pub returns-clause-spent : goal.returns-clause-spent
returns-clause-spent c = last_turns
