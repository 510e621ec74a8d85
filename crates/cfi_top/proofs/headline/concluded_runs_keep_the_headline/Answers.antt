use Rattle.cfi_top.proofs.PromiseLemmas.{ask_in_force, keep_policies_in, enter_units, store_inside}
use Rattle.cfi_top.proofs.headline.concluded_runs_keep_the_headline.Goals as goal

pub returns-clause-policies : goal.returns-clause-policies
returns-clause-policies c = keep_policies_in

pub returns-clause-in_force : goal.returns-clause-in_force
returns-clause-in_force c = ask_in_force

pub returns-clause-enters : goal.returns-clause-enters
returns-clause-enters c = enter_units

pub returns-clause-stores : goal.returns-clause-stores
returns-clause-stores c = store_inside
