use Rattle.cfi_valid.proofs.example.LoadLies.{one_base, two_modules, one_epoch, one_policy, some_line, one_asker, no_load, no_refresh}
use Rattle.cfi_valid.proofs.refusals.opening_has_one_run.Goals as goal

pub returns-clause-base : goal.returns-clause-base
returns-clause-base c = one_base

pub returns-clause-modules : goal.returns-clause-modules
returns-clause-modules c = two_modules

pub returns-clause-epoch : goal.returns-clause-epoch
returns-clause-epoch c = one_epoch

pub returns-clause-policy : goal.returns-clause-policy
returns-clause-policy c = one_policy

pub returns-clause-journal : goal.returns-clause-journal
returns-clause-journal c = some_line

pub returns-clause-who : goal.returns-clause-who
returns-clause-who c = one_asker

pub returns-clause-load : goal.returns-clause-load
returns-clause-load c = no_load

pub returns-clause-refresh : goal.returns-clause-refresh
returns-clause-refresh c = no_refresh
