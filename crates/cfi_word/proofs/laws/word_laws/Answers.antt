use Rattle.cfi_word.proofs.WordLemmas.{id_in-packed, policy_in-packed, epoch_in-packed}
use Rattle.cfi_word.proofs.laws.word_laws.Goals as goal

pub returns-clause-id : goal.returns-clause-id
returns-clause-id c = id_in-packed

pub returns-clause-policy : goal.returns-clause-policy
returns-clause-policy c = policy_in-packed

pub returns-clause-epoch : goal.returns-clause-epoch
returns-clause-epoch c = epoch_in-packed
