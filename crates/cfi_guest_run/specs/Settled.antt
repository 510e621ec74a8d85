-- What a guest's pass has settled of a run, and how the guest's log fits it.
use Rattle.std.specs.Prelude.{◌≡◌, ℕ, ◌≤◌, List, [], ◌∷◌, ◌++◌, length}
use Rattle.std.specs.List.{fold}
use mathlib.Core.List.{IsPrefix}
use Rattle.cfi_aux.specs.declared.modules.Module.{Module}
use Rattle.cfi_loader.specs.Ledger.{Ledger, IsLedger}
use Rattle.cfi_model.specs.Log.{picked}
use Rattle.cfi_plan.specs.declared.plan.Plan.{Plan}
use Rattle.cfi_runner.specs.Seen.{policy_seen}
use Rattle.cfi_tables.specs.Key.{Key}
use Rattle.cfi_tables.specs.declared.view.Sight.{Sight}
use Rattle.cfi_unit.specs.declared.log.Log.{Log}
use Rattle.cfi_unit.specs.declared.log.Log.TheVariants.{Pick, Open, Cause}
use Rattle.cfi_valid.specs.Log.{IsLogged}
use Rattle.cfi_word.specs.declared.services.TheConstants.{NO_MODULE}

-- the ledger of a loader, whose history and refusals are a beginning of what a pass has seen in force
pub record IsSettled (k : Key) (plan : Plan) (modules : List Module) (s : Sight) (l : Ledger) : Type 0 where
  pub ledger : IsLedger k plan modules l
  pub entries : IsPrefix l.keeping.entries s.entries
  pub force : l.course.end.epoch ≤ s.latest
  pub refusals : IsPrefix l.keeping.refusals s.refusals

-- ---- what is logged between two notes

-- a log with an entry more, where neighbouring picks under one policy are one entry
abbrev pub log_with : List Log → Log → List Log
log_with log (Pick policy count) = picked policy log
log_with log (Open number address policy) = log ++ Open number address policy ∷ []
log_with log (Cause number cause) = log ++ Cause number cause ∷ []

-- a log with further entries, each added as a guest logs it
abbrev pub log_with_all : (more : List Log) → List Log → List Log
log_with_all more log = fold log_with log more

-- an open of a module that the plan lacks
pub record IsUnplanned (plan : Plan) (number cause : ℕ) : Type 0 where
  pub is : cause ≡ NO_MODULE
  pub past : length plan.modules ≤ number

-- picks, under policies that never fall, and opens of modules that the plan lacks
abbrev pub ComeBetween : Plan → (least most : ℕ) → List Log → Type 0
ComeBetween plan least most [] = least ≤ most
ComeBetween plan least most (Pick policy count ∷ later) = (least ≤ policy) × ComeBetween plan policy most later
ComeBetween plan least most (Open number address policy ∷ later) = ⊥
ComeBetween plan least most (Cause number cause ∷ later) =
    IsUnplanned plan number cause × ComeBetween plan least most later

-- what was logged when the guest was last told of the run fits it as it was then; since then came what needs no
-- telling, under policies that its pass has seen in force
pub record FitsSettled (k : Key) (s : Sight) (guest : ℕ) (l : Ledger) (log : List Log) : Type 0 where
  pub told : List Log
  pub logged : IsLogged l.course guest told
  pub more : List Log
  pub between : ComeBetween l.course.plan l.course.end.policy (policy_seen k s) more
  pub is : log ≡ log_with_all more told
