-- What a guest of a simulation has logged still fits where the journal goes on, and where the guest logs more.
use Rattle.std.proofs.Common.{◌≡◌, ℕ, ◌≤◌, ◌<◌, ◌++◌, List, [], ◌∷◌, length, arith}
use Rattle.cfi_aux.specs.declared.modules.Module.{Module}
use Rattle.cfi_plan.specs.declared.journal.Entry.{Entry}
use Rattle.cfi_plan.specs.declared.plan.Plan.{Plan}
use Rattle.cfi_unit.specs.declared.log.Log.{Log}
use Rattle.cfi_unit.specs.declared.log.Log.TheVariants.{Pick, Open, Cause}
use Rattle.cfi_model.specs.Log.{policy_after, last_policy}
use Rattle.cfi_sim.specs.Valid.{IsSimCause, IsSimLogged}
use Rattle.cfi_valid.specs.Course.{Course}
use Rattle.cfi_valid.specs.Growth.{IsLater}
use Rattle.cfi_valid.specs.Journal.{JournalState, members_of}
use Rattle.cfi_valid.specs.Loaded.{live_at}
use Rattle.cfi_valid.specs.Log.{next_policy, HasFunctionAt, HasNoFunction, Why, NoModule, ModulesFull, NotPlaced, NotVerified, VersionsSpent, EpochsSpent, NoFunction, Retired, Unlogged, why_of}
use Rattle.cfi_valid.proofs.EntryGrowth.{holds_closes, fits_grow}
use Rattle.cfi_valid.proofs.LogGrowth.{holds_stays, fits_stays}

module _ (plan : Plan) (modules : List Module) (journal more : List Entry) (end after : JournalState)
    (later : IsLater end after) where
  abbrev old : Course
  old = record { plan = plan; modules = modules; journal = journal; end = end }

  abbrev new : Course
  new = record { plan = plan; modules = modules; journal = more; end = after }

  module _ (log : List Log) (logged : IsSimLogged old log) where
    abbrev Before : (at number cause : ℕ) → Type 0
    Before at number cause = IsSimCause old log at number cause (why_of cause)

    -- ---- nothing more is logged

    cause_stays : (at number cause : ℕ) (why : Why) → IsSimCause old log at number cause why
        → IsSimCause new log at number cause why
    cause_stays at number cause NoModule caused = caused
    cause_stays at number cause NoFunction caused =
        holds_stays old new later Before log logged at (λ loaded live. HasNoFunction live number) caused
    cause_stays at number cause Unlogged caused = caused
    cause_stays at number cause ModulesFull caused = absurd caused
    cause_stays at number cause NotPlaced caused = absurd caused
    cause_stays at number cause NotVerified caused = absurd caused
    cause_stays at number cause VersionsSpent caused = absurd caused
    cause_stays at number cause EpochsSpent caused = absurd caused
    cause_stays at number cause Retired caused = absurd caused

    pub log_stays : IsSimLogged new log
    log_stays =
        fits_stays old new later Before log logged
        (λ at number cause. IsSimCause new log at number cause (why_of cause))
        (λ at number cause caused. cause_stays at number cause (why_of cause) caused)

    -- ---- an entry more

    module _ (entry : Log) (rises : last_policy log ≤ policy_after (last_policy log) entry)
        (most : policy_after (last_policy log) entry ≤ after.policy)
        (closes : end.policy ≤ next_policy after.policy (entry ∷ []))
        (opened : (number address policy : ℕ) → entry ≡ Open number address policy
        → HasFunctionAt (live_at policy (members_of after)) number address)
        (caused : (number cause : ℕ) → entry ≡ Cause number cause
        → IsSimCause new (log ++ entry ∷ []) (length log) number cause (why_of cause)) where
      abbrev all : List Log
      all = log ++ entry ∷ []

      cause_closes : (at number cause : ℕ) → at < length log → (why : Why) → IsSimCause old log at number cause why
          → IsSimCause new all at number cause why
      cause_closes at number cause inside NoModule held = held
      cause_closes at number cause inside NoFunction held =
          holds_closes old new later Before log logged entry closes at inside
          (λ loaded live. HasNoFunction live number) held
      cause_closes at number cause inside Unlogged held = held
      cause_closes at number cause inside ModulesFull held = absurd held
      cause_closes at number cause inside NotPlaced held = absurd held
      cause_closes at number cause inside NotVerified held = absurd held
      cause_closes at number cause inside VersionsSpent held = absurd held
      cause_closes at number cause inside EpochsSpent held = absurd held
      cause_closes at number cause inside Retired held = absurd held

      pub log_grows : IsSimLogged new all
      log_grows =
          fits_grow old new later Before log logged entry closes
          (λ at number cause. IsSimCause new all at number cause (why_of cause)) rises most opened
          (λ at number cause inside held. cause_closes at number cause inside (why_of cause) held) caused

    -- ---- a pick more

    pub pick_pushed : (policy : ℕ) → end.policy ≤ policy → policy ≤ after.policy
        → IsSimLogged new (log ++ Pick policy 1 ∷ [])
    pick_pushed policy least most =
        log_grows (Pick policy 1) (omega (arith, logged.most, least)) most least
        (λ number address other is. absurd (cc)) (λ number cause is. absurd (cc))
