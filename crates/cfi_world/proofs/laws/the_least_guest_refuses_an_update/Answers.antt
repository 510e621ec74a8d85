use Rattle.cfi_world.proofs.LeastLemmas.{the_least_refuses}
use Rattle.cfi_world.proofs.QuietLemmas.{publishes_none_above, refusal_guest}
use Rattle.cfi_world.proofs.RefusalLemmas.{refusal_many, refusal_only, refusal_spent}
use Rattle.cfi_world.proofs.laws.the_least_guest_refuses_an_update.Goals as goal

pub returns-clause-spent : goal.returns-clause-spent
returns-clause-spent c = refusal_spent

pub returns-clause-only : goal.returns-clause-only
returns-clause-only c = refusal_only

pub returns-clause-least : goal.returns-clause-least
returns-clause-least c = the_least_refuses

pub returns-clause-many : goal.returns-clause-many
returns-clause-many c = λ w guest quiet is refusal. refusal_many w is guest quiet refusal

pub returns-clause-guest : goal.returns-clause-guest
returns-clause-guest c = refusal_guest

pub returns-clause-above : goal.returns-clause-above
returns-clause-above c = publishes_none_above
