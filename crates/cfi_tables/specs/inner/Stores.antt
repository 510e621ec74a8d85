-- The steps of an update, as far as they have come.
use Rattle.std.specs.Prelude.{◌≡◌, ℕ, zero, suc, ◌+◌, ◌-◌, ◌≤◌, ◌<◌, nat_lt, if◌then◌else◌, List, [], length, Some}
use Rattle.atomic_table.specs.Seated.{TableId}
use Rattle.cfi_word.specs.declared.limits.TheConstants.{GUESTS, MAX_EPOCH}
use Rattle.cfi_word.specs.Table.{Place, IsPlace}
use Rattle.cfi_model.specs.declared.history.Entry.{Entry}
use Rattle.cfi_model.specs.Tables.{IsTables, IsUpdate}
use Rattle.cfi_model.specs.Words.{before, newest, next_epoch, rank_at, word_of_entry}
use Rattle.cfi_tables.specs.Faults.{AdmitBelow, AreLater, HeardBelow, IsSameOf}
use Rattle.cfi_tables.specs.Key.{Key}
use Rattle.cfi_tables.specs.Keeping.{Keeping, grown_by, last_of}
use Rattle.cfi_model.specs.Words.{HasStore}
use Rattle.cfi_tables.specs.Views.{idle_tables, idle_view, keeper_of, keeping_of, tables_of, view_at}
use Rattle.cfi_tables.specs.inner.Stamps.{Stamp}
use Rattle.cfi_tables.specs.inner.Steps.{Seated}
use Rattle.cfi_tables.specs.declared.view.KeeperView.{KeeperView}
use Rattle.cfi_tables.specs.declared.view.Quiets.{Quiets}
use Rattle.cfi_tables.specs.declared.view.View.TheVariants.{Keeper}

-- the keeper's seat is at the table, and has this view
pub record IsAt (table at : TableId) (id : ℕ) (me : Seated) (u : KeeperView) : Type 0 where
  pub table_is : at ≡ table
  pub id_is : id ≡ 0
  pub me_is : me ≡ (Keeper u, [])

-- what the keeper keeps, of its seat
abbrev pub keeping_at : Seated → Keeping
keeping_at me = keeping_of (keeper_of me.0)

-- an update to the entry may be asked for: its epoch is one
pub record CanAsk (k : Key) (keeping : Keeping) (entry : Entry) : Type 0 where
  pub tables : IsTables (idle_tables k keeping)
  pub follows : IsUpdate k.code_words (last_of keeping.entries) entry
  pub fits : next_epoch (idle_tables k keeping) ≤ MAX_EPOCH
  pub many : length keeping.quiets.heard ≡ GUESTS
  pub found_many : length keeping.quiets.found ≡ GUESTS

-- the view where so many QUIET words have passed the test of the update to the entry, and where all have
abbrev pub asked_at : Key → Keeping → Entry → (tested : ℕ) → KeeperView
asked_at k keeping entry zero = idle_view k keeping
asked_at k keeping entry (suc more) = record (idle_view k keeping) { asked = Some entry; tested = suc more }

-- the keeper's view once so many words were tested: asked, or about to store
abbrev pub testing : Key → Keeping → Entry → (tested : ℕ) → KeeperView
testing k keeping entry tested =
    if nat_lt tested GUESTS then asked_at k keeping entry tested else view_at (grown_by entry keeping.quiets keeping) 0

-- the QUIET words where the test has loaded one of each guest that it has passed, and no other
pub record HavePassed (k : Key) (keeping : Keeping) (quiets : Quiets) (tested : ℕ) : Type 0 where
  pub admit : AdmitBelow k keeping quiets tested
  pub later : AreLater keeping.quiets quiets
  pub heard : HeardBelow keeping.quiets quiets tested
  pub rest : (other : ℕ) → tested ≤ other → IsSameOf keeping.quiets quiets other

-- the test of the update to the entry, where the keeper has kept this before, and has loaded these QUIET words
pub record IsTesting (table : TableId) (k : Key) (keeping : Keeping) (entry : Entry) (at : TableId) (id : ℕ)
    (me : Seated) (tested : ℕ) : Type 0 where
  pub seat : IsAt table at id me (testing k (record keeping { quiets = (keeping_at me).quiets }) entry tested)
  pub passed : HavePassed k keeping (keeping_at me).quiets tested

-- the stores of ranks below this were made, but for words that are the same in the newest entry and in the one before
pub record HasStoredBelow (k : Key) (u : KeeperView) (rank : ℕ) : Type 0 where
  pub same : u ≡ view_at (keeping_of u) u.stored
  pub least : u.stored ≤ rank
  pub skipped : (other : Place) → IsPlace k.code_words other → HasStore other
      → u.stored ≤ rank_at k.code_words other → rank_at k.code_words other < rank
      → word_of_entry (tables_of k u) (newest (tables_of k u)) other
      ≡ word_of_entry (tables_of k u) (before (tables_of k u)) other

-- what the table words of the last entry have in common
abbrev pub stamp_of : Key → List Entry → Stamp
stamp_of k entries = record {
  epoch = k.first + (length entries - 1);
  policy = (last_of entries).policy;
  versions = k.versions;
}
