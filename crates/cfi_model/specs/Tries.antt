-- The tries of checks, among the loads that a guest makes; these are numbered from 0.
use Rattle.std.specs.Prelude.{◌≡◌, ℕ, ◌≤◌, ◌<◌, List, length, slice_get, Some}
use Rattle.cfi_word.specs.Table.{IsCode, IsTary, IsBary}
use Rattle.cfi_model.specs.declared.history.Access.{Access}

-- the load of this number is of a word of the area
pub record Loads (area : (word : ℕ) → Type 0) (accesses : List Access) (number : ℕ) : Type 0 where
  pub access : Access
  pub is : slice_get accesses number ≡ Some access
  pub inside : area access.word

-- a try: a Bary load and the Tary load that follows it, with no more than code fetched between them; a quiescent point
-- between them would load EPOCH
pub record IsTry (code_words : ℕ) (accesses : List Access) (from to : ℕ) : Type 0 where
  pub bary : Loads (IsBary code_words) accesses from
  pub tary : Loads (IsTary code_words) accesses to
  pub order : from < to
  pub between : (number : ℕ) → from < number → number < to → Loads (IsCode code_words) accesses number

-- the last one of these loads: since its Tary load no more than code was fetched
pub record IsLastTry (code_words : ℕ) (accesses : List Access) (from to : ℕ) : Type 0 where
  pub try : IsTry code_words accesses from to
  pub last : (number : ℕ) → to < number → number < length accesses → Loads (IsCode code_words) accesses number

-- its window is the time from the one to the other
pub record IsInWindow (from to moment : ℕ) : Type 0 where
  pub after : from ≤ moment
  pub until : moment ≤ to
