use Rattle.cfi_valid.proofs.example.HelloLies.{one_base, some_module, one_epoch, one_policy, some_guest}
use Rattle.cfi_valid.proofs.refusals.hello_has_one_run.Goals as goal

pub returns-clause-base : goal.returns-clause-base
returns-clause-base c = one_base

pub returns-clause-modules : goal.returns-clause-modules
returns-clause-modules c = some_module

pub returns-clause-epoch : goal.returns-clause-epoch
returns-clause-epoch c = one_epoch

pub returns-clause-policy : goal.returns-clause-policy
returns-clause-policy c = one_policy

pub returns-clause-guests : goal.returns-clause-guests
returns-clause-guests c = some_guest
