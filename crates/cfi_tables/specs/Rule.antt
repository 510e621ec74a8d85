-- The rule of the tables, at every moment: the words are those of the keeper's view, and what each seat knows is true.
use Rattle.std.specs.Prelude.{◌≡◌, ◌≢◌, ◌⊎◌, ℕ, ◌+◌, ◌≤◌, ◌<◌, true, false, List, length, slice_get, slice_index, Option, Some, None, ⊤, ◌^◌}
use mathlib.Core.List.{IsPrefix}
use mathlib.Core.Option.{some}
use lib.ListN.{get_elem?}
use Rattle.atomic_table.specs.Table.{State}
use Rattle.cfi_word.specs.declared.limits.TheConstants.{GUESTS}
use Rattle.cfi_word.specs.Table.{Place, IsPlace, quiet_word, word_count, word_number, code_word}
use Rattle.cfi_word.specs.Table as places
use Rattle.cfi_word.specs.Word.{epoch_in}
use Rattle.cfi_model.specs.declared.history.Access.{Access}
use Rattle.cfi_model.specs.declared.history.Entry.{Entry}
use Rattle.cfi_model.specs.declared.history.Refusal.{Refusal}
use Rattle.cfi_model.specs.declared.quiet.TheConstants.{PARKED}
use Rattle.cfi_model.specs.Tables.{IsTables}
use Rattle.cfi_model.specs.Accesses.{AreFair}
use Rattle.cfi_model.specs.TableMoments.{AreTimed, IsBy, moment_of}
use Rattle.cfi_model.specs.Words.{HasStore, epoch_in_force, next_epoch, word_at, number_at}
use Rattle.cfi_tables.specs.Fair.{history_at, kept_of}
use Rattle.cfi_tables.specs.Key.{Key}
use Rattle.cfi_tables.specs.Keeping.{is_out}
use Rattle.cfi_tables.specs.Views.{last_moment, tables_of, tables_with, word_of_pass}
use Rattle.cfi_tables.specs.declared.view.KeeperView.{KeeperView}
use Rattle.cfi_tables.specs.declared.view.PassView.{PassView}
use Rattle.cfi_tables.specs.declared.view.Sight.{Sight}
use Rattle.cfi_tables.specs.declared.view.View.{View}
use Rattle.cfi_tables.specs.declared.view.View.TheVariants.{Keeper, Pass, Spent}

-- what was seen is a beginning of all that was, and what was loaded are words of it, each of its moment
pub record AgreesWith (k : Key) (entries : List Entry) (refusals : List Refusal) (sight : Sight) : Type 0 where
  pub begins : IsPrefix sight.entries entries
  pub refused : IsPrefix sight.refusals refusals
  pub timed : AreTimed (tables_with k entries) sight.accesses
  pub fair : AreFair (history_at k) k.code_words None sight.accesses

-- the tables of the last load go on to those of the keeper, and no load is of a later moment
pub record GoesOnTo (k : Key) (u : KeeperView) (sight : Sight) : Type 0 where
  pub had : IsPrefix sight.had u.entries
  pub now : IsBy (last_moment k sight) (moment_of (tables_of k u))
  pub loads : (number : ℕ) (access : Access) → slice_get sight.accesses number ≡ Some access
      → IsBy access.moment (last_moment k sight)

-- and the latest epoch is one, which is not above the one in force; all code of the entries that were seen is stored
pub record IsSeen (k : Key) (u : KeeperView) (sight : Sight) : Type 0 where
  pub agrees : AgreesWith k u.entries u.refusals sight
  pub on : GoesOnTo k u sight
  pub least : k.first ≤ sight.latest
  pub latest : sight.latest ≤ epoch_in_force (tables_of k u)
  pub code : (index : ℕ) → index < k.code_words
      → length sight.entries ≤ number_at (tables_of k u) (places.Code index) + 1

-- a Bary word that a guest keeps is of this epoch at the earliest
pub record IsKeptBy (p : PassView) (floor word : ℕ) : Type 0 where
  pub least : floor ≤ epoch_in word
  pub most : epoch_in word ≤ p.sight.latest

-- The Bary words of a guest that is not parked, those that it keeps and those that are stored, are of a floor's epoch
-- at least, which is at most one below what it has published; and no update has come too far above it, neither the
-- newest one, nor the next one, where it has passed the guest's test.
pub record IsBounded (k : Key) (u : KeeperView) (p : PassView) : Type 0 where
  pub floor : ℕ
  pub published : p.quiet ≤ floor + 1
  pub stored : (slot : ℕ) → IsPlace k.code_words (places.Bary slot)
      → floor ≤ k.first + number_at (tables_of k u) (places.Bary slot)
  pub kept : (word : ℕ) → kept_of k p.sight.accesses ≡ Some word → IsKeptBy p floor word
  pub newest : next_epoch (tables_of k u) ≤ floor + k.versions
  pub next : p.guest < u.tested → next_epoch (tables_of k u) + 1 ≤ floor + k.versions

-- a pass that is out: what it has seen is true, and the keeper knows of nothing later that its guest has published
pub record IsRegistered (k : Key) (u : KeeperView) (p : PassView) : Type 0 where
  pub seen : IsSeen k u p.sight
  pub within : p.guest < GUESTS
  pub out : is_out u.out p.guest ≡ true
  pub published : p.quiet ≤ p.sight.latest
  pub heard : slice_index u.quiets.heard p.guest ≤ p.quiet + 1
  pub bounded : p.parked ≡ false → IsBounded k u p

-- what a seat's view says is true, as the keeper has it
abbrev pub IsTrueOf : Key → KeeperView → View → Type 0
IsTrueOf k u (Keeper view) = ⊤
IsTrueOf k u (Pass p) = IsRegistered k u p
IsTrueOf k u Spent = ⊤

-- the guest's QUIET word tells that it is parked, or the epoch that it has published
abbrev pub IsPublished : (words : List ℕ) → PassView → Type 0
IsPublished words p = slice_index words (quiet_word p.guest) ≡ word_of_pass p

-- the pass that the keeper holds is out too
pub record IsHeldOut (k : Key) (words : List ℕ) (u : KeeperView) (p : PassView) : Type 0 where
  pub registered : IsRegistered k u p
  pub published : IsPublished words p

-- so is what the keeper holds, if it holds a pass
abbrev pub HeldFits : Key → (words : List ℕ) → KeeperView → Option PassView → Type 0
HeldFits k words u None = ⊤
HeldFits k words u (Some p) = IsHeldOut k words u p

-- the keeper holds no pass of the guest
abbrev pub IsElse : Option PassView → (guest : ℕ) → Type 0
IsElse None guest = ⊤
IsElse (Some p) guest = p.guest ≢ guest

-- each word but the QUIET words is that of the tables
abbrev pub ShowTables : Key → (words : List ℕ) → KeeperView → Type 0
ShowTables k words u =
    (place : Place) → IsPlace k.code_words place → HasStore place
    → slice_index words (word_number k.code_words place) ≡ word_at (tables_of k u) place

-- the QUIET word of a guest is 0, or that of one that is parked, or tells an epoch that is or was in force
abbrev pub TellsForce : Key → KeeperView → (word : ℕ) → Type 0
TellsForce k u word =
    (word ≡ 0) ⊎ (word ≡ PARKED) ⊎ ((k.first < word) × (word ≤ epoch_in_force (tables_of k u) + 1))

-- that of a guest whose pass is not out is 0; none is less than what the keeper knows that its guest has published
pub record ShowQuiets (k : Key) (words : List ℕ) (u : KeeperView) : Type 0 where
  pub out_many : length u.out ≡ GUESTS
  pub quiets_many : length u.quiets.heard ≡ GUESTS
  pub later : (guest : ℕ) → guest < GUESTS → slice_index u.quiets.heard guest ≤ slice_index words (quiet_word guest)
  pub away : (guest : ℕ) → guest < GUESTS → is_out u.out guest ≡ false → slice_index words (quiet_word guest) ≡ 0
  pub tells : (guest : ℕ) → guest < GUESTS → TellsForce k u (slice_index words (quiet_word guest))

-- a code word has 32 bits
abbrev pub CodeFits : Key → (words : List ℕ) → Type 0
CodeFits k words = (index : ℕ) → index < k.code_words → slice_index words (code_word index) < 2 ^ 32

-- the rule of the tables
pub record KeepsRule (k : Key) (s : State (Unit {0}) View) : Type 0 where
  pub keeper : KeeperView
  pub first : get_elem? s.views 0 ≡ some (Keeper keeper)
  pub tables : IsTables (tables_of k keeper)
  pub many : length s.words ≡ word_count k.code_words
  pub shows : ShowTables k s.words keeper
  pub quiets : ShowQuiets k s.words keeper
  pub code : CodeFits k s.words
  pub held : HeldFits k s.words keeper keeper.held
  pub seats : (seat : ℕ) (view : View) → get_elem? s.views seat ≡ some view → IsTrueOf k keeper view
  pub published : (seat : ℕ) (p : PassView) → get_elem? s.views seat ≡ some (Pass p) → IsPublished s.words p
  pub apart : (seat : ℕ) (p : PassView) → get_elem? s.views seat ≡ some (Pass p) → IsElse keeper.held p.guest
  pub alone : (one other : ℕ) (p q : PassView) → get_elem? s.views one ≡ some (Pass p)
      → get_elem? s.views other ≡ some (Pass q) → p.guest ≡ q.guest → one ≡ other
