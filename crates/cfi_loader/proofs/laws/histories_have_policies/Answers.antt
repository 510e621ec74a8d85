use Rattle.cfi_loader.proofs.HistoryLemmas.{have_policies}
use Rattle.cfi_loader.proofs.laws.histories_have_policies.Goals as goal

pub returns : goal.returns
returns c = have_policies
