use Rattle.cfi_valid.proofs.example.LoadLies.{one_entry, one_stop, one_units, steps_by_tries}
use Rattle.cfi_valid.proofs.refusals.opening_has_one_guest.Goals as goal

pub returns-clause-entry : goal.returns-clause-entry
returns-clause-entry c = one_entry

pub returns-clause-stop : goal.returns-clause-stop
returns-clause-stop c = one_stop

pub returns-clause-units : goal.returns-clause-units
returns-clause-units c = one_units

pub returns-clause-steps : goal.returns-clause-steps
returns-clause-steps c = steps_by_tries
