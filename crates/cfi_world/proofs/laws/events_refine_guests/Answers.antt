use Rattle.cfi_world.proofs.RefineLemmas.{refines}
use Rattle.cfi_world.proofs.OthersLemmas.{others_stay, only_updates}
use Rattle.cfi_world.proofs.ForceLemmas.{force_stays}
use Rattle.cfi_world.proofs.PassedLemmas.{last_words}
use Rattle.cfi_world.proofs.StopLemmas.{halted, placed}
use Rattle.cfi_world.proofs.laws.events_refine_guests.Goals as goal

pub returns-clause-refines : goal.returns-clause-refines
returns-clause-refines c = λ w is event may guest r here retries s runs.
    refines w is guest r here retries s runs event may

pub returns-clause-others : goal.returns-clause-others
returns-clause-others c = others_stay

pub returns-clause-stores : goal.returns-clause-stores
returns-clause-stores c = only_updates

pub returns-clause-force : goal.returns-clause-force
returns-clause-force c = force_stays

pub returns-clause-halts : goal.returns-clause-halts
returns-clause-halts c = halted

pub returns-clause-units : goal.returns-clause-units
returns-clause-units c = placed

pub returns-clause-led : goal.returns-clause-led
returns-clause-led c = last_words
