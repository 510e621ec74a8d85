use Rattle.cfi_model.proofs.TableLemmas.{force_epoch, force_policy}
use Rattle.cfi_model.proofs.words.epoch_tells_force.Goals as goal

pub returns-clause-epoch : goal.returns-clause-epoch
returns-clause-epoch c = force_epoch

pub returns-clause-policy : goal.returns-clause-policy
returns-clause-policy c = force_policy
