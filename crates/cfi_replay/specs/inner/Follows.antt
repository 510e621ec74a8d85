-- A machine that follows the log of a part, unit by unit.
use Rattle.std.specs.Prelude.{◌≡◌, ℕ, ◌≤◌, false, true, List, [], length, drop, slice_get, Option, Some, None, ⊤}
use Rattle.std.specs.List.{fold}
use Rattle.cfi_model.specs.Log.{last_policy, policy_after}
use Rattle.cfi_model.specs.Plain.{IsTurn, PlainState, answered, has_one_class}
use Rattle.cfi_model.specs.Service.{Reply, reply_of}
use Rattle.cfi_model.specs.State.{State}
use Rattle.cfi_model.specs.declared.step.PlainStep.{PlainStep}
use Rattle.cfi_unit.specs.declared.log.Log.{Log}
use Rattle.cfi_unit.specs.declared.log.Log.TheVariants.{Pick, Open, Cause}
use Rattle.cfi_valid.specs.Loaded.{fills_between, Filled}
use Rattle.cfi_valid.specs.Log.{NeverFall}
use Rattle.cfi_valid.specs.Replay.{singles, given_by, IsReplayed, Replays}
use Rattle.cfi_word.specs.declared.lists.Labels.{Labels}
use Rattle.cfi_labels.specs.Labels.{AreLabelsAt}
use Rattle.cfi_replay.specs.Setting.{members_in}
use Rattle.cfi_replay.specs.declared.cursor.Cursor.{Cursor}
use Rattle.cfi_replay.specs.declared.setting.Setting.{Setting}
use Rattle.cfi_replay.specs.inner.Cursor.{HasAnswered, HasMark, IsSettled, Reach}

-- ---- where the machine is in the log

-- what the log has left is what the cursor has
pub record IsAt (log : List Log) (cursor : Cursor) (s : State) : Type 0 where
  pub within : cursor.at ≤ length log
  pub rest : drop (length (singles s.log)) (singles log) ≡ drop cursor.used (singles (drop cursor.at log))
  pub settled : IsSettled cursor.used (drop cursor.at log)
  pub policy_is : cursor.policy ≡ last_policy s.log
  pub given_is : cursor.given ≡ given_by s.log
  pub mark : HasMark s.log cursor

-- the policies of what is left never fall, and none is above the one in force
pub record Rises (force : ℕ) (cursor : Cursor) (left : List Log) : Type 0 where
  pub rises : NeverFall cursor.policy left
  pub most : fold policy_after cursor.policy left ≤ force
  pub given : cursor.given ≤ cursor.policy

-- the machine runs no unit, and is there
pub record Follows (s : Setting) (log : List Log) (cursor : Cursor) (m : PlainState) : Type 0 where
  pub idle : m.waits ≡ false
  pub at : IsAt log cursor m.state
  pub rises : Rises s.force cursor (drop cursor.at log)

-- ---- one unit

-- the policy of the next check
abbrev pub next_policy : (policy : ℕ) → Option Log → ℕ
next_policy policy (Some (Pick next count)) = next
next_policy policy (Some (Open number address other)) = policy
next_policy policy (Some (Cause number cause)) = policy
next_policy policy None = policy

-- a machine that follows the log has run the unit at which it stood, under the policy of the next check
pub record HasTurned (s : Setting) (log : List Log) (cursor : Cursor) (old new : PlainState) : Type 0 where
  pub going : old.state.stop ≡ None
  pub follows : Follows s log cursor old
  pub policy : ℕ
  pub policy_is : policy ≡ next_policy cursor.policy (slice_get log cursor.at)
  pub labels : Labels
  pub labels_are : AreLabelsAt (members_in s) policy labels
  pub step : PlainStep
  pub turn : IsTurn s.code.now policy (has_one_class labels) old new step

-- a unit is replayed, and the machine follows on
pub record HasGone (s : Setting) (log : List Log) (old : PlainState) (cursor : Cursor) (new : PlainState)
    : Type 0 where
  pub unit : IsReplayed Filled s.code.now (members_in s) log old.state new.state
  pub follows : Follows s log cursor new

-- ---- an open

-- the machine waits for the answer to an open
pub record Asks (s : Setting) (log : List Log) (cursor : Cursor) (m : PlainState) : Type 0 where
  pub waiting : m.waits ≡ true
  pub at : IsAt log cursor m.state
  pub rises : Rises s.force cursor (drop cursor.at log)

-- the answer by an entry: an open brings the data up to its policy and the cells at it, a cause none
abbrev pub reply_by : Setting → Cursor → Log → Reply
reply_by s cursor (Pick policy count) = reply_of 0 0 0 []
reply_by s cursor (Open number address policy) =
    reply_of address 0 policy (fills_between Filled cursor.given policy (members_in s))
reply_by s cursor (Cause number cause) = reply_of 0 cause cursor.policy []

-- how far it brings the guest
abbrev pub reach_by : Cursor → Log → Reach
reach_by cursor (Pick policy count) = record { policy = cursor.policy; given = cursor.given }
reach_by cursor (Open number address policy) = record { policy = policy; given = policy }
reach_by cursor (Cause number cause) = record { policy = cursor.policy; given = cursor.given }

-- the entry is that of an open
abbrev pub IsOpenEntry : Log → Type 0
IsOpenEntry (Pick policy count) = ⊥
IsOpenEntry (Open number address policy) = ⊤
IsOpenEntry (Cause number cause) = ⊤

-- a machine, and how far it has come in the log
pub record Follower : Type 0 where
  pub cursor : Cursor
  pub machine : PlainState

-- the next entry answers
pub record HasAnsweredBy (s : Setting) (log : List Log) (old new : Follower) : Type 0 where
  pub entry : Log
  pub next : slice_get log old.cursor.at ≡ Some entry
  pub answers : IsOpenEntry entry
  pub is : new.machine ≡ answered (reply_by s old.cursor entry) old.machine
  pub cursor : HasAnswered log new.machine.state.log (reach_by old.cursor entry) old.cursor new.cursor

-- it answers none
abbrev pub IsNoAnswer : Option Log → Type 0
IsNoAnswer (Some (Pick policy count)) = ⊤
IsNoAnswer (Some (Open number address policy)) = ⊥
IsNoAnswer (Some (Cause number cause)) = ⊥
IsNoAnswer None = ⊤

-- ---- all units

-- a machine at its start
pub record IsStart (m : PlainState) : Type 0 where
  pub idle : m.waits ≡ false
  pub unlogged : m.state.log ≡ []
  pub units : m.state.units ≡ 0

-- so many units lead from one state to another
abbrev pub HasReplayed : Setting → List Log → (units : ℕ) → (start last : State) → Type 0
HasReplayed s log units start last = Replays Filled s.code.now (members_in s) log units start last
