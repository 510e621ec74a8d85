-- The tables of a world as they are kept.
use Rattle.std.specs.Prelude.{ℕ, ◌+◌, ◌≤◌, vec_capacity}
use Rattle.cfi_word.specs.declared.limits.TheConstants.{MAX_POLICY}
use Rattle.cfi_model.specs.Tables.{IsTables}
use Rattle.cfi_model.specs.Words.{Tables}
use Rattle.cfi_world.specs.declared.tables.Tables.TheInside.{Inside}
use Rattle.cfi_world.specs.inner.Entries.{HaveImages, entries_by, asked_by}

-- the tables, and for how many updates there is room
pub record Held : Type 0 where
  pub tables : Tables
  pub room : ℕ

-- what is kept, as clauses see it
abbrev pub tables_by : Inside → Tables
tables_by a = record {
  code_words = a.layout;
  versions = a.versions;
  first = a.first;
  entries = entries_by a.images.items a.policies.items;
  stored = a.stored;
  asked = asked_by a.images.items a.policies.items a.asked;
  tested = a.tested;
}

-- the tables, and the room for updates
abbrev pub held_by : Inside → Held
held_by a = record { tables = tables_by a; room = a.room }

-- and there is room for all images and for the entries
pub record AreHeldTables (a : Inside) : Type 0 where
  pub tables : IsTables (tables_by a)
  pub kept : HaveImages a.images.items a.policies.items
  pub image_room : MAX_POLICY + 1 ≤ vec_capacity a.images
  pub entry_room : a.room + 1 ≤ vec_capacity a.policies
