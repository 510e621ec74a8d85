-- A log of a simulation with a pick more fits: how many picks its last entry counts is nothing to it.
use Rattle.std.proofs.Common.{ℕ, ◌≤◌, ◌++◌, List, [], ◌∷◌}
use Rattle.cfi_aux.specs.declared.modules.Module.{Module}
use Rattle.cfi_plan.specs.declared.journal.Entry.{Entry}
use Rattle.cfi_plan.specs.declared.plan.Plan.{Plan}
use Rattle.cfi_unit.specs.declared.log.Log.{Log}
use Rattle.cfi_unit.specs.declared.log.Log.TheVariants.{Pick}
use Rattle.cfi_model.specs.Log.{picked}
use Rattle.cfi_sim.specs.Valid.{IsSimCause, IsSimLogged}
use Rattle.cfi_sim.proofs.guests.CausesLemmas.{log_stays, pick_pushed}
use Rattle.cfi_valid.specs.Course.{Course}
use Rattle.cfi_valid.specs.Growth.{IsLater}
use Rattle.cfi_valid.specs.Journal.{JournalState}
use Rattle.cfi_valid.specs.Log.{Why, NoModule, ModulesFull, NotPlaced, NotVerified, VersionsSpent, EpochsSpent, NoFunction, Retired, Unlogged, why_of}
use Rattle.cfi_valid.proofs.PickGrowth.{span_same, fits_same, fits_picked}

-- ---- two logs that differ in the count of the last pick

module _ (policy count other : ℕ) (c : Course) (front : List Log) where
  abbrev old : List Log
  old = front ++ Pick policy count ∷ []

  abbrev new : List Log
  new = front ++ Pick policy other ∷ []

  caused_same : (at number cause : ℕ) (why : Why) → IsSimCause c old at number cause why
      → IsSimCause c new at number cause why
  caused_same at number cause NoModule held = held
  caused_same at number cause NoFunction held =
      (held.0, span_same policy count other front c.end.policy at held.0 held.1, held.2)
  caused_same at number cause Unlogged held = held
  caused_same at number cause ModulesFull held = absurd held
  caused_same at number cause NotPlaced held = absurd held
  caused_same at number cause NotVerified held = absurd held
  caused_same at number cause VersionsSpent held = absurd held
  caused_same at number cause EpochsSpent held = absurd held
  caused_same at number cause Retired held = absurd held

  logged_same : IsSimLogged c old → IsSimLogged c new
  logged_same logged =
      fits_same policy count other front c (λ at number cause. IsSimCause c old at number cause (why_of cause))
      (λ at number cause. IsSimCause c new at number cause (why_of cause))
      (λ at number cause held. caused_same at number cause (why_of cause) held) logged

-- ---- one pick more

module _ (plan : Plan) (modules : List Module) (journal more : List Entry) (end after : JournalState)
    (later : IsLater end after) (log : List Log)
    (logged : IsSimLogged (record { plan = plan; modules = modules; journal = journal; end = end }) log)
    (policy : ℕ) (least : end.policy ≤ policy) (most : policy ≤ after.policy) where
  abbrev now : Course
  now = record { plan = plan; modules = modules; journal = more; end = after }

  pub picks_grow : IsSimLogged now (picked policy log)
  picks_grow =
      fits_picked (IsSimLogged now) policy log (log_stays plan modules journal more end after later log logged)
      (pick_pushed plan modules journal more end after later log logged policy least most)
      (λ count other front fits. logged_same policy count other now front fits)
