use Rattle.cfi_model.proofs.RunningLemmas.{opened_runs, rests_run, goes_on, running_shows, running_steps}
use Rattle.cfi_model.proofs.GrowLemmas.{running_grows}
use Rattle.cfi_model.proofs.HaltLemmas.{only_checks_halt}
use Rattle.cfi_model.proofs.shows.a_guest_runs.Goals as goal

pub returns-clause-starts : goal.returns-clause-starts
returns-clause-starts c = opened_runs

pub returns-clause-rests : goal.returns-clause-rests
returns-clause-rests c = rests_run

pub returns-clause-goes_on : goal.returns-clause-goes_on
returns-clause-goes_on c = λ h code known retries s r runs t fits. goes_on h code known retries s r runs t fits

pub returns-clause-grows : goal.returns-clause-grows
returns-clause-grows c = λ h g code more known e keeps. running_grows h g e code more keeps known

pub returns-clause-shows : goal.returns-clause-shows
returns-clause-shows c = λ h code known retries s r runs. running_shows h code known retries s r runs

pub returns-clause-steps : goal.returns-clause-steps
returns-clause-steps c = λ h code known retries s r runs. running_steps h code known retries s r runs

pub returns-clause-halts : goal.returns-clause-halts
returns-clause-halts c = only_checks_halt
