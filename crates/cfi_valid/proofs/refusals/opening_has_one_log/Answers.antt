use Rattle.cfi_valid.proofs.example.LoadLies.{one_address, one_pick, no_cause}
use Rattle.cfi_valid.proofs.refusals.opening_has_one_log.Goals as goal

pub returns-clause-address : goal.returns-clause-address
returns-clause-address c = one_address

pub returns-clause-pick : goal.returns-clause-pick
returns-clause-pick c = one_pick

pub returns-clause-cause : goal.returns-clause-cause
returns-clause-cause c = no_cause
