-- How a journal goes on, and what stays true of a guest meanwhile.
use Rattle.std.specs.Prelude.{◌≡◌, ℕ, ◌+◌, ◌≤◌, ◌<◌, List, [], ◌∷◌, ◌++◌, length, take, drop}
use Rattle.std.specs.List.{AllByRecursion}
use Rattle.cfi_plan.specs.declared.journal.Entry.{Entry}
use Rattle.cfi_model.specs.Log.{picked, policy_after, last_policy}
use Rattle.cfi_unit.specs.declared.log.Log.{Log}
use Rattle.cfi_unit.specs.declared.log.Log.TheVariants.{Pick, Open, Cause}
use Rattle.cfi_valid.specs.Course.{Course}
use Rattle.cfi_valid.specs.Journal.{JournalState, EntriesLead, members_of}
use Rattle.cfi_valid.specs.Loaded.{LoadedModule, loaded_by, live_at}
use Rattle.cfi_valid.specs.declared.retirement.Retirement.{Retirement}
use Rattle.cfi_valid.specs.Log.{HasFunctionAt, IsInSpan, IsCaused, why_of, IsLogged}

-- what a state has came with policies up to the one in force
pub record AreUpTo (s : JournalState) : Type 0 where
  pub loaded : AllByRecursion (λ (l : LoadedModule). l.policy ≤ s.policy) s.loaded
  pub retired : AllByRecursion (λ (r : Retirement). r.policy ≤ s.policy) s.retired

-- a state has the modules of an earlier one, and behind them those that came with later policies; and so it is with
-- those that were retired
pub record IsLater (old new : JournalState) : Type 0 where
  pub more : List LoadedModule
  pub is : new.loaded ≡ old.loaded ++ more
  pub above : AllByRecursion (λ (l : LoadedModule). old.policy < l.policy) more
  pub gone : List Retirement
  pub retired_is : new.retired ≡ old.retired ++ gone
  pub after : AllByRecursion (λ (r : Retirement). old.policy < r.policy) gone
  pub policy : old.policy ≤ new.policy
  pub epoch : old.epoch ≤ new.epoch

-- a course goes on: its journal has more lines
pub record Continues (old new : Course) : Type 0 where
  pub plan : new.plan ≡ old.plan
  pub modules : new.modules ≡ old.modules
  pub more : List Entry
  pub journal : new.journal ≡ old.journal ++ more
  pub leads : EntriesLead old.plan old.modules old.end more new.end

-- each policy finds loaded what it found loaded when it was in force
abbrev pub LoadedStays : Type 0
LoadedStays = (old new : JournalState) → IsLater old new → (policy : ℕ) → policy ≤ old.policy →
    loaded_by policy new.loaded ≡ loaded_by policy old.loaded

-- and what was live then is live under it
abbrev pub LiveStays : Type 0
LiveStays = (old new : JournalState) → IsLater old new → (policy : ℕ) → policy ≤ old.policy →
    live_at policy (members_of new) ≡ live_at policy (members_of old)

-- what a guest has logged still fits
abbrev pub LogStays : Type 0
LogStays = (old new : Course) → Continues old new → (guest : ℕ) (log : List Log) → IsLogged old guest log →
    IsLogged new guest log

-- A policy lies in the span of an entry where it is not below the last one logged before, and not above one that was
-- settled when the open was answered: one that no policy that is logged later is below, nor the one in force.
abbrev pub SettledLies : Type 0
SettledLies = (force : ℕ) (log : List Log) (at policy settled : ℕ) → last_policy (take at log) ≤ policy →
    policy ≤ settled → settled ≤ force →
    AllByRecursion (λ (entry : Log). settled ≤ policy_after settled entry) (drop (at + 1) log) →
    IsInSpan force log at policy

-- ---- one entry more

-- an entry that a guest logs while the journal goes on from one course to another: its policy is not below the one that
-- was in force, and not above the one that is; what it says holds now
abbrev pub FitsEntry : (old new : Course) → (guest : ℕ) → List Log → Log → Type 0
FitsEntry old new guest log (Pick policy count) = (old.end.policy ≤ policy) × (policy ≤ new.end.policy)
FitsEntry old new guest log (Open number address policy) =
    (old.end.policy ≤ policy) × (policy ≤ new.end.policy)
    × HasFunctionAt (live_at policy (members_of new.end)) number address
FitsEntry old new guest log (Cause number cause) =
    IsCaused new guest (log ++ Cause number cause ∷ []) (length log) number (why_of cause)

-- the log with it fits
abbrev pub LogGrows : Type 0
LogGrows = (old new : Course) → Continues old new → (guest : ℕ) (log : List Log) → IsLogged old guest log →
    (entry : Log) → FitsEntry old new guest log entry → IsLogged new guest (log ++ entry ∷ [])

-- and so does one with a pick more, which may be one with the last
abbrev pub PicksGrow : Type 0
PicksGrow = (old new : Course) → Continues old new → (guest : ℕ) (log : List Log) → IsLogged old guest log →
    (policy : ℕ) → old.end.policy ≤ policy → policy ≤ new.end.policy → IsLogged new guest (picked policy log)
