-- The history that a pass has seen.
-- Epochs and policies are numbers. Entries are numbered from 0; the first one has the table's first epoch.
use Rattle.std.specs.Prelude.{ℕ, ◌+◌, ◌-◌, ◌≤◌, ◌<◌, List, length, slice_index_or}
use mathlib.Core.List.{IsPrefix}
use Rattle.cfi_model.specs.declared.history.Entry.{Entry}
use Rattle.cfi_model.specs.History.{History}
use Rattle.cfi_model.specs.Tables.{IsTables}
use Rattle.cfi_model.specs.Words.{no_entry}
use Rattle.cfi_tables.specs.Key.{Key}
use Rattle.cfi_tables.specs.Views.{tables_with}
use Rattle.cfi_tables.specs.declared.view.Sight.{Sight}

-- the entry of an epoch
abbrev pub entry_seen : Key → Sight → (epoch : ℕ) → Entry
entry_seen k sight epoch = slice_index_or sight.entries (epoch - k.first) no_entry

-- the epochs up to the latest one are or were in force, and those behind it are ahead
abbrev pub history_seen : Key → Sight → History
history_seen k sight = record {
  first = k.first;
  count = sight.latest + 1 - k.first;
  ahead = k.first + length sight.entries - (sight.latest + 1);
  versions = k.versions;
  policy = λ epoch. (entry_seen k sight epoch).policy;
  image = λ epoch. (entry_seen k sight epoch).image;
}

-- the code and the policy of the latest epoch
abbrev pub code_seen : Key → Sight → List ℕ
code_seen k sight = (entry_seen k sight sight.latest).image.code

-- the policy that a pass has seen last
abbrev pub policy_seen : Key → Sight → ℕ
policy_seen k sight = (entry_seen k sight sight.latest).policy

-- what was seen are entries of tables, and the latest epoch is that of one
pub record IsSight (k : Key) (sight : Sight) : Type 0 where
  pub tables : IsTables (tables_with k sight.entries)
  pub least : k.first ≤ sight.latest
  pub most : sight.latest < k.first + length sight.entries

-- more was seen, or as much
pub record SeesMore (k : Key) (old new : Sight) : Type 0 where
  pub entries : IsPrefix old.entries new.entries
  pub latest : old.latest ≤ new.latest
  pub is : IsSight k new
