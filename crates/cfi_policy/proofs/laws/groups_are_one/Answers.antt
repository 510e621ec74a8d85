use Rattle.cfi_policy.proofs.OneLemmas.{same_groups, group_joins, group_shares, group_reached}
use Rattle.cfi_policy.proofs.laws.groups_are_one.Goals as goal

pub returns-clause-same : goal.returns-clause-same
returns-clause-same c = λ ms one other one_are other_are. same_groups ms one other one_are other_are

pub returns-clause-joined : goal.returns-clause-joined
returns-clause-joined c = λ ms groups are. group_joins ms groups are

pub returns-clause-shared : goal.returns-clause-shared
returns-clause-shared c = λ ms groups are. group_shares ms groups are

pub returns-clause-reached : goal.returns-clause-reached
returns-clause-reached c = λ ms groups are. group_reached ms groups are
