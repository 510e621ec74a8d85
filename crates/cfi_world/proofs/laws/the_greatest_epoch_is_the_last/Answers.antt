use Rattle.cfi_world.proofs.AskLemmas.{epochs_only, epochs_spent}
use Rattle.cfi_world.proofs.laws.the_greatest_epoch_is_the_last.Goals as goal

pub returns-clause-spent : goal.returns-clause-spent
returns-clause-spent c = epochs_spent

pub returns-clause-only : goal.returns-clause-only
returns-clause-only c = epochs_only
