-- How far a guest has come in the log of its part.
use Rattle.std.specs.Prelude.{◌≡◌, ◌≢◌, ℕ, ◌+◌, ◌<◌, ◌≤◌, ◌==◌, Bool, false, if◌then◌else◌, List, [], ◌∷◌, length, drop, slice_get, Some}
use Rattle.cfi_model.specs.Log.{last_picks}
use Rattle.cfi_unit.specs.declared.log.Log.{Log}
use Rattle.cfi_unit.specs.declared.log.Log.TheVariants.{Pick, Open, Cause}
use Rattle.cfi_replay.specs.declared.cursor.Cursor.{Cursor}

-- an entry stands for nothing: it counts no pick
abbrev pub is_void : Log → Bool
is_void (Pick policy count) = count == 0
is_void (Open number address policy) = false
is_void (Cause number cause) = false

-- a log from its first entry on that stands for something
abbrev pub unvoid : List Log → List Log
unvoid [] = []
unvoid (entry ∷ later) = if is_void entry then unvoid later else entry ∷ later

-- so many picks of the first entry were made, and it has more
abbrev pub IsSettled : (used : ℕ) → List Log → Type 0
IsSettled used [] = used ≡ 0
IsSettled used (Pick policy count ∷ later) = used < count
IsSettled used (Open number address policy ∷ later) = used ≡ 0
IsSettled used (Cause number cause ∷ later) = used ≡ 0

-- what the guest's own log tells is noted
pub record HasMark (logged : List Log) (cursor : Cursor) : Type 0 where
  pub entries : cursor.entries ≡ length logged
  pub picks : cursor.picks ≡ last_picks logged

-- it is noted now
abbrev pub marked : (logged : List Log) → Cursor → Cursor
marked logged cursor = record cursor { entries = length logged; picks = last_picks logged }

-- the cursor of a guest at its start
pub record IsOpened (log : List Log) (cursor : Cursor) : Type 0 where
  pub within : cursor.at ≤ length log
  pub rest : drop cursor.at log ≡ unvoid log
  pub is : cursor ≡ record { at = cursor.at; used = 0; policy = 0; given = 0; entries = 0; picks = 0 }

-- the next entry is done
pub record HasPassed (log : List Log) (old new : Cursor) : Type 0 where
  pub within : new.at ≤ length log
  pub rest : drop new.at log ≡ unvoid (drop (old.at + 1) log)
  pub is : new ≡ record old { at = new.at; used = 0 }

-- one more of its picks is made, which is its last one or not
pub record HasCounted (log : List Log) (count : ℕ) (old new : Cursor) : Type 0 where
  pub last : old.used + 1 ≡ count → HasPassed log old new
  pub more : old.used + 1 ≢ count → new ≡ record old { used = old.used + 1 }

-- the next pick is made, and what the guest has logged is noted
pub record HasPicked (log logged : List Log) (old new : Cursor) : Type 0 where
  pub policy : ℕ
  pub count : ℕ
  pub next : slice_get log old.at ≡ Some (Pick policy count)
  pub mid : Cursor
  pub counted : HasCounted log count old mid
  pub is : new ≡ marked logged (record mid { policy = policy })

-- the next entry is no pick
abbrev pub HasNoPick : List Log → Cursor → Type 0
HasNoPick log cursor = (policy count : ℕ) → slice_get log cursor.at ≢ Some (Pick policy count)

-- how far an answer brings a guest: the last policy that was logged, and the one up to which it has been given data
pub record Reach : Type 0 where
  pub policy : ℕ
  pub given : ℕ

-- an open was answered by the next entry, which brings the guest so far
pub record HasAnswered (log logged : List Log) (reach : Reach) (old new : Cursor) : Type 0 where
  pub mid : Cursor
  pub passed : HasPassed log old mid
  pub is : new ≡ marked logged (record mid { policy = reach.policy; given = reach.given })
