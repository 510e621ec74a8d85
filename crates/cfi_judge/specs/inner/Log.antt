-- The parts of a guest's log that need no cause of an open.
use Rattle.std.specs.Prelude.{◌≡◌, ℕ, ◌≤◌, List, slice_get, Some, ⊤, true, if◌then◌else◌, nat_lt}
use Rattle.cfi_model.specs.Log.{last_policy}
use Rattle.cfi_unit.specs.declared.log.Log.{Log}
use Rattle.cfi_unit.specs.declared.log.Log.TheVariants.{Open, Pick, Cause}
use Rattle.cfi_labels.specs.Live.{is_live_line}
use Rattle.cfi_valid.specs.Loaded.{Members, live_at}
use Rattle.cfi_valid.specs.declared.retirement.Retirement.{Retirement}
use Rattle.cfi_valid.specs.Log.{HasFunctionAt, NeverFall, HasNoFunction}
use Rattle.cfi_aux.specs.declared.placed.Placed.{Placed}
use Rattle.cfi_modules.specs.Entry.{HasNoneOf, IsGlobal}
use Rattle.cfi_plan.specs.declared.journal.ModuleLine.{ModuleLine}

-- the policies of a log never fall, and none is above the one in force
pub record HasRisen (force : ℕ) (log : List Log) : Type 0 where
  pub rises : NeverFall 0 log
  pub most : last_policy log ≤ force

-- what the entries say is open is live under their policies
abbrev pub HasOpens : Members → List Log → Type 0
HasOpens members log = (at number address policy : ℕ) → slice_get log at ≡ Some (Open number address policy)
    → HasFunctionAt (live_at policy members) number address

-- ---- what an entry of a log says is open

-- the module of a line has this number, it is live under this policy, and P holds of it
pub record IsThere (P : Placed → Type 0) (retired : List Retirement) (line : ModuleLine) (placed : Placed)
    (number policy : ℕ) : Type 0 where
  pub is : line.number ≡ number
  pub lives : is_live_line policy retired line ≡ true
  pub holds : P placed

-- what an entry says is open is live under the policy of the entry: a case an entry
abbrev pub HasOpen : Members → Log → Type 0
HasOpen members (Pick policy count) = ⊤
HasOpen members (Open number address policy) = HasFunctionAt (live_at policy members) number address
HasOpen members (Cause number cause) = ⊤

-- ---- a module that has no function

-- the first policy from one on that finds the module of a line loaded
abbrev pub first_by : (least : ℕ) → ModuleLine → ℕ
first_by least line = if nat_lt least line.policy then line.policy else least

-- the module of a line has this number, and none, and it is live under the first policy of a span that finds it loaded
pub record IsBareIn (least most : ℕ) (retired : List Retirement) (line : ModuleLine) (placed : Placed) (number : ℕ)
    : Type 0 where
  pub within : first_by least line ≤ most
  pub there : IsThere (HasNoneOf IsGlobal) retired line placed number (first_by least line)

-- some policy of a span finds such a module live
pub record LacksBy (least most : ℕ) (members : Members) (number : ℕ) : Type 0 where
  pub policy : ℕ
  pub above : least ≤ policy
  pub below : policy ≤ most
  pub none : HasNoFunction (live_at policy members) number
