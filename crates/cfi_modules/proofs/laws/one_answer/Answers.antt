use Rattle.cfi_modules.proofs.OrderLemmas.{joins_once, one_fault, joins_or_refused}
use Rattle.cfi_modules.proofs.laws.one_answer.Goals as goal

pub returns-clause-one : goal.returns-clause-one
returns-clause-one c = joins_once

pub returns-clause-fault : goal.returns-clause-fault
returns-clause-fault c = one_fault

pub returns-clause-never : goal.returns-clause-never
returns-clause-never c = joins_or_refused
