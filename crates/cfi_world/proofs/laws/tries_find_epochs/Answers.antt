use Rattle.cfi_world.proofs.ForceLemmas.{bary_load, tary_load, picks}
use Rattle.cfi_world.proofs.CheckLemmas.{picks_hold, repeats_meet}
use Rattle.cfi_world.proofs.CountLemmas.{counted_once}
use Rattle.cfi_world.proofs.PassedLemmas.{own_words}
use Rattle.cfi_world.proofs.laws.tries_find_epochs.Goals as goal

pub returns-clause-bary : goal.returns-clause-bary
returns-clause-bary c = bary_load

pub returns-clause-tary : goal.returns-clause-tary
returns-clause-tary c = tary_load

pub returns-clause-picks : goal.returns-clause-picks
returns-clause-picks c = picks

pub returns-clause-window : goal.returns-clause-window
returns-clause-window c = picks_hold

pub returns-clause-repeats : goal.returns-clause-repeats
returns-clause-repeats c = repeats_meet

pub returns-clause-own : goal.returns-clause-own
returns-clause-own c = own_words

pub returns-clause-counts : goal.returns-clause-counts
returns-clause-counts c = counted_once
