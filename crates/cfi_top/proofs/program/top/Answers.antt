use Rattle.cfi_top.proofs.PromiseLemmas.{ask_in_force, keep_policies_in, enter_units, store_inside}
use Rattle.cfi_top.proofs.DoneLemmas.{done_of, run_only, if_some}
use Rattle.cfi_top.proofs.JudgedLemmas.{judged_of}
use Rattle.cfi_top.proofs.MadeLemmas.{ran_of, generated_of, simulated_of, listed_of, assembled_of, instrumented_of, stubbed_of, linked_of, verified_of, graphed_of}
use Rattle.cfi_top.proofs.TopLemmas.{usage_of, unfit_of, read_fault_of, missed_of, stopped_of, write_fault_of, refused_of}
use Rattle.cfi_top.proofs.FilesLemmas.{valid_shelf, elsewhere_of, same_of, within_of}
use Rattle.cfi_top.proofs.program.top.Goals as goal

pub returns-clause-ran : goal.returns-clause-ran
returns-clause-ran g c = ran_of _ _ _ _ _ _ _ c.run_words.ensures.ends

pub returns-clause-generated : goal.returns-clause-generated
returns-clause-generated g c = generated_of _ _ _ _ _ _ _ c.run_words.ensures.ends

pub returns-clause-run : goal.returns-clause-run
returns-clause-run g c = run_only _ _ _ _ _ _ _ c.run_words.ensures.ends

-- the promises hold of whatever was concluded
pub returns-clause-policies : goal.returns-clause-policies
returns-clause-policies g c = if_some c.run_words.result.run keep_policies_in

pub returns-clause-enters : goal.returns-clause-enters
returns-clause-enters g c = if_some c.run_words.result.run enter_units

pub returns-clause-stores : goal.returns-clause-stores
returns-clause-stores g c = if_some c.run_words.result.run store_inside

pub returns-clause-in_force : goal.returns-clause-in_force
returns-clause-in_force g c = if_some c.run_words.result.run ask_in_force

pub returns-clause-simulated : goal.returns-clause-simulated
returns-clause-simulated g c = simulated_of _ _ _ _ _ _ _ c.run_words.ensures.ends

pub returns-clause-listed : goal.returns-clause-listed
returns-clause-listed g c = listed_of _ _ _ _ _ _ _ c.run_words.ensures.ends

pub returns-clause-assembled : goal.returns-clause-assembled
returns-clause-assembled g c = assembled_of _ _ _ _ _ _ _ c.run_words.ensures.ends

pub returns-clause-instrumented : goal.returns-clause-instrumented
returns-clause-instrumented g c = instrumented_of _ _ _ _ _ _ _ c.run_words.ensures.ends

pub returns-clause-stubbed : goal.returns-clause-stubbed
returns-clause-stubbed g c = stubbed_of _ _ _ _ _ _ _ c.run_words.ensures.ends

pub returns-clause-linked : goal.returns-clause-linked
returns-clause-linked g c = linked_of _ _ _ _ _ _ _ c.run_words.ensures.ends

pub returns-clause-verified : goal.returns-clause-verified
returns-clause-verified g c = verified_of _ _ _ _ _ _ _ c.run_words.ensures.ends

pub returns-clause-graphed : goal.returns-clause-graphed
returns-clause-graphed g c = graphed_of _ _ _ _ _ _ _ c.run_words.ensures.ends

pub returns-clause-judged : goal.returns-clause-judged
returns-clause-judged g c = judged_of _ _ _ _ _ _ _ c.run_words.ensures.ends

pub returns-clause-done : goal.returns-clause-done
returns-clause-done g c = λ e. done_of _ _ _ _ _ _ _ e c.run_words.ensures.ends

pub returns-clause-usage : goal.returns-clause-usage
returns-clause-usage g c = usage_of _ _ _ _ _ _ _ c.run_words.ensures.ends

pub returns-clause-unfit : goal.returns-clause-unfit
returns-clause-unfit g c = unfit_of _ _ _ _ _ _ _ c.run_words.ensures.ends

pub returns-clause-read_fault : goal.returns-clause-read_fault
returns-clause-read_fault g c = read_fault_of _ _ _ _ _ _ _ c.run_words.ensures.ends

pub returns-clause-missed : goal.returns-clause-missed
returns-clause-missed g c = missed_of _ _ _ _ _ _ _ c.run_words.ensures.ends

pub returns-clause-unread : goal.returns-clause-unread
returns-clause-unread g c = stopped_of _ _ _ _ _ _ _ c.run_words.ensures.ends

pub returns-clause-write_fault : goal.returns-clause-write_fault
returns-clause-write_fault g c = write_fault_of _ _ _ _ _ _ _ c.run_words.ensures.ends

pub returns-clause-refused : goal.returns-clause-refused
returns-clause-refused g c = refused_of _ _ _ _ _ _ _ c.run_words.ensures.ends

pub returns-clause-within : goal.returns-clause-within
returns-clause-within g c = within_of _ _ _ _ _ _ _ c.run_words.ensures.ends

pub returns-clause-valid : goal.returns-clause-valid
returns-clause-valid g c = valid_shelf _ _ _ _ _ _ _ c.run_words.ensures.ends

pub returns-clause-elsewhere : goal.returns-clause-elsewhere
returns-clause-elsewhere g c = elsewhere_of _ _ _ _ _ _ _ c.run_words.ensures.ends

pub returns-clause-same : goal.returns-clause-same
returns-clause-same g c = same_of _ _ _ _ _ _ _ c.run_words.ensures.ends
