-- What a seat's view tells: the keeper's view is the tables as they are.
use Rattle.std.specs.Prelude.{ℕ, ◌+◌, ◌-◌, List, [], length, Option, Some, None, true, false, if◌then◌else◌}
use Rattle.cfi_word.specs.Rank.{stores_of}
use Rattle.cfi_model.specs.declared.history.Access.{Access}
use Rattle.cfi_model.specs.declared.history.Entry.{Entry}
use Rattle.cfi_model.specs.declared.history.Moment.{Moment}
use Rattle.cfi_model.specs.declared.quiet.TheConstants.{PARKED}
use Rattle.cfi_model.specs.TableMoments.{moment_of}
use Rattle.cfi_model.specs.Words.{Tables}
use Rattle.cfi_tables.specs.Key.{Key}
use Rattle.cfi_tables.specs.Keeping.{Keeping, no_quiets, opened_keeping}
use Rattle.cfi_tables.specs.declared.view.KeeperView.{KeeperView}
use Rattle.cfi_tables.specs.declared.view.PassView.{PassView}
use Rattle.cfi_tables.specs.declared.view.Sight.{Sight}
use Rattle.cfi_tables.specs.declared.view.View.{View}
use Rattle.cfi_tables.specs.declared.view.View.TheVariants.{Keeper, Pass, Spent}

-- the tables of the keeper's view
abbrev pub tables_of : Key → KeeperView → Tables
tables_of k u = record {
  code_words = k.code_words;
  versions = k.versions;
  first = k.first;
  entries = u.entries;
  stored = u.stored;
  asked = u.asked;
  tested = u.tested;
}

-- a keeper's view after so many stores, while no update is asked for
abbrev pub view_at : Keeping → (stored : ℕ) → KeeperView
view_at keeping stored = record {
  entries = keeping.entries;
  stored = stored;
  asked = None;
  tested = 0;
  refusals = keeping.refusals;
  out = keeping.out;
  quiets = keeping.quiets;
  held = None;
}

-- while no update is under way
abbrev pub idle_view : Key → Keeping → KeeperView
idle_view k keeping = view_at keeping (stores_of k.code_words)

-- the tables while no update is under way
abbrev pub idle_tables : Key → Keeping → Tables
idle_tables k keeping = tables_of k (idle_view k keeping)

-- the tables of these entries, all of whose words are stored
abbrev pub tables_with : Key → List Entry → Tables
tables_with k entries = idle_tables k (record { entries = entries; refusals = []; out = []; quiets = no_quiets })

-- the tables of a pass's last load, and their moment
abbrev pub last_tables : Key → Sight → Tables
last_tables k sight =
    tables_of k (view_at (record { entries = sight.had; refusals = []; out = []; quiets = no_quiets }) sight.stored)

-- the moment of the tables of which a pass has heard last
abbrev pub last_moment : Key → Sight → Moment
last_moment k sight = moment_of (last_tables k sight)

-- that of the opening
abbrev pub opened_view : Key → View
opened_view k = Keeper (idle_view k (opened_keeping k))

-- what the keeper keeps, of its view
abbrev pub keeping_of : KeeperView → Keeping
keeping_of u = record { entries = u.entries; refusals = u.refusals; out = u.out; quiets = u.quiets }

-- all that the keeper has seen, for a pass with these accesses; the last epoch is in force while no update is under way
abbrev pub sight_of : Key → Keeping → List Access → Sight
sight_of k keeping accesses = record {
  entries = keeping.entries;
  refusals = keeping.refusals;
  latest = k.first + (length keeping.entries - 1);
  accesses = accesses;
  had = keeping.entries;
  stored = stores_of k.code_words;
}

-- a pass that is admitted has seen what the keeper has seen, and its guest has published the epoch in force
abbrev pub admitted : Key → Keeping → (guest : ℕ) → PassView
admitted k keeping guest = record {
  guest = guest;
  quiet = k.first + (length keeping.entries - 1);
  parked = false;
  sight = sight_of k keeping [];
}

-- a pass after a note
abbrev pub noted : Key → Keeping → PassView → PassView
noted k keeping p = record p { sight = sight_of k keeping p.sight.accesses }

-- a pass whose guest has parked
abbrev pub parked : PassView → PassView
parked p = record p { parked = true }

-- the QUIET word of a pass's guest
abbrev pub word_of_pass : PassView → ℕ
word_of_pass p = if p.parked then PARKED else p.quiet + 1

-- the keeper's view, where the seat is the keeper's
abbrev pub no_view : KeeperView
no_view = view_at (record { entries = []; refusals = []; out = []; quiets = no_quiets }) 0

-- the view of the keeper, or none
abbrev pub keeper_of : View → KeeperView
keeper_of (Keeper u) = u
keeper_of (Pass p) = no_view
keeper_of Spent = no_view

-- the pass's view, where the seat is a pass's
abbrev pub no_pass : PassView
no_pass = record {
  guest = 0;
  quiet = 0;
  parked = false;
  sight = record { entries = []; refusals = []; latest = 0; accesses = []; had = []; stored = 0 };
}

-- the view of a pass, or none
abbrev pub pass_of : View → PassView
pass_of (Keeper u) = no_pass
pass_of (Pass p) = p
pass_of Spent = no_pass

-- the pass that the keeper holds
abbrev pub held_by : Option PassView → PassView
held_by None = no_pass
held_by (Some p) = p
