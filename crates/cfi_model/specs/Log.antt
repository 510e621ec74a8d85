-- A guest's log: the policies of its picks, and its opens.
use Rattle.std.specs.Prelude.{◌≡◌, ℕ, ◌+◌, ◌-◌, ◌≤◌, ◌==◌, Bool, true, false, if◌then◌else◌, List, [], ◌∷◌, ◌++◌, length, slice_get, slice_set, Option, Some, None, count_by}
use Rattle.std.specs.List.{fold}
use Rattle.cfi_unit.specs.declared.log.Log.{Log}
use Rattle.cfi_unit.specs.declared.log.Log.TheVariants.{Pick, Open, Cause}
use Rattle.cfi_word.specs.declared.limits.TheConstants.{MAX_OPENS, MAX_POLICY}

-- the last entry
abbrev pub last_of : List Log → Option Log
last_of log = slice_get log (length log - 1)

-- the number of picks that an entry says were made under the policy
abbrev pub picks_of : (policy : ℕ) → Option Log → ℕ
picks_of policy (Some (Pick p count)) = if p == policy then count else 0
picks_of policy (Some (Open module_number address p)) = 0
picks_of policy (Some (Cause module_number cause)) = 0
picks_of policy None = 0

-- the entry says that picks were made under the policy
abbrev pub is_pick_of : (policy : ℕ) → Option Log → Bool
is_pick_of policy (Some (Pick p count)) = p == policy
is_pick_of policy (Some (Open module_number address p)) = false
is_pick_of policy (Some (Cause module_number cause)) = false
is_pick_of policy None = false

-- the log after a pick: neighbouring picks under one policy are one entry
abbrev pub picked : (policy : ℕ) → List Log → List Log
picked policy log =
    if is_pick_of policy (last_of log)
    then slice_set log (length log - 1) (Pick policy (picks_of policy (last_of log) + 1))
    else log ++ Pick policy 1 ∷ []

-- the entry is that of an open
abbrev pub is_open : Log → Bool
is_open (Pick policy count) = false
is_open (Open module_number address policy) = true
is_open (Cause module_number cause) = true

-- how many opens are logged
abbrev pub opens : List Log → ℕ
opens log = count_by is_open log

-- the policy that an entry names, or else the one before
abbrev pub policy_after : (before : ℕ) → Log → ℕ
policy_after before (Pick policy count) = policy
policy_after before (Open module_number address policy) = policy
policy_after before (Cause module_number cause) = before

-- the last policy that is logged, 0 where none is
abbrev pub last_policy : List Log → ℕ
last_policy log = fold policy_after 0 log

-- the number of picks that the last entry counts
abbrev pub picks_in : Option Log → ℕ
picks_in (Some (Pick policy count)) = count
picks_in (Some (Open module_number address policy)) = 0
picks_in (Some (Cause module_number cause)) = 0
picks_in None = 0

-- how many picks the last entry counts
abbrev pub last_picks : List Log → ℕ
last_picks log = picks_in (last_of log)

-- how many entries count picks
abbrev pub is_pick : Log → Bool
is_pick (Pick policy count) = true
is_pick (Open module_number address policy) = false
is_pick (Cause module_number cause) = false

-- how many entries are picks
abbrev pub pick_entries : List Log → ℕ
pick_entries log = count_by is_pick log

-- a pick at the end takes its place from the policy that is one higher
abbrev pub spent_by : Option Log → ℕ
spent_by (Some (Pick policy count)) = 1
spent_by (Some (Open module_number address policy)) = 0
spent_by (Some (Cause module_number cause)) = 0
spent_by None = 0

-- the room of a log suffices: each entry of picks but one follows an open, or has a higher policy than the one before
pub record HasRoom (log : List Log) : Type 0 where
  pub opens_most : opens log ≤ MAX_OPENS
  pub policy_most : last_policy log ≤ MAX_POLICY
  pub picks_most : pick_entries log ≤ opens log + last_policy log + spent_by (last_of log)
  pub length_is : length log ≡ opens log + pick_entries log
