-- Moments of the tables. An entry that tables have had stays, and its words are stored in one order; so two numbers tell
-- the tables as they were at an earlier moment.
-- Entries are numbered from 0, and so are loads.
use Rattle.std.specs.Prelude.{◌≡◌, ◌⊎◌, ℕ, ◌-◌, ◌≤◌, ◌<◌, List, length, slice_get, take, Some, None}
use Rattle.cfi_word.specs.Table.{Place, IsPlace, word_number}
use Rattle.cfi_model.specs.declared.history.Access.{Access}
use Rattle.cfi_model.specs.declared.history.Moment.{Moment}
use Rattle.cfi_model.specs.History.{History}
use Rattle.cfi_model.specs.Tables.{IsTables}
use Rattle.cfi_model.specs.Words.{Tables, HasStore, entry_at, epoch_in_force, policy_in_force, word_at}

-- the tables as they were at a moment
abbrev pub tables_at : Tables → Moment → Tables
tables_at t m = record {
  code_words = t.code_words;
  versions = t.versions;
  first = t.first;
  entries = take m.entries t.entries;
  stored = m.stored;
  asked = None;
  tested = 0;
}

-- the moment of tables as they are
abbrev pub moment_of : Tables → Moment
moment_of t = record { entries = length t.entries; stored = t.stored }

-- the tables have been there
pub record IsMoment (t : Tables) (m : Moment) : Type 0 where
  pub within : m.entries ≤ length t.entries
  pub tables : IsTables (tables_at t m)

-- the one moment is not after the other
abbrev pub IsBy : (one other : Moment) → Type 0
IsBy one other =
    (one.entries < other.entries) ⊎ ((one.entries ≡ other.entries) × (one.stored ≤ other.stored))

-- what a load has found at its place is the word of the tables of its moment
pub record IsTimed (t : Tables) (access : Access) : Type 0 where
  pub place : Place
  pub within : IsPlace t.code_words place
  pub stored : HasStore place
  pub word : access.word ≡ word_number t.code_words place
  pub moment : IsMoment t access.moment
  pub found : access.found ≡ word_at (tables_at t access.moment) place

-- no load is of a moment before that of an earlier one
abbrev pub AreInOrder : List Access → Type 0
AreInOrder accesses =
    (one other : ℕ) (a b : Access) → one < other → slice_get accesses one ≡ Some a → slice_get accesses other ≡ Some b
    → IsBy a.moment b.moment

-- loads of one guest, from first to last
pub record AreTimed (t : Tables) (accesses : List Access) : Type 0 where
  pub each : (number : ℕ) (access : Access) → slice_get accesses number ≡ Some access → IsTimed t access
  pub order : AreInOrder accesses

-- the history and the code are those of the tables: each epoch has the policy of its entry
pub record IsOfTables (t : Tables) (h : History) (code : List ℕ) : Type 0 where
  pub code_words : length code ≡ t.code_words
  pub first : h.first ≡ t.first
  pub policy : (epoch : ℕ) → h.policy epoch ≡ (entry_at t (epoch - t.first)).policy

-- an epoch is in force, and its policy with it: that of the word EPOCH
pub record IsInForce (t : Tables) (epoch policy : ℕ) : Type 0 where
  pub epoch_is : epoch_in_force t ≡ epoch
  pub policy_is : policy_in_force t ≡ policy

-- at each moment from the one to the other
abbrev pub HoldsFrom : Tables → (one other : Moment) → (epoch policy : ℕ) → Type 0
HoldsFrom t one other epoch policy =
    (now : Moment) → IsMoment t now → IsBy one now → IsBy now other → IsInForce (tables_at t now) epoch policy
