-- What each kind of step tells its seat.
use Rattle.std.specs.Prelude.{◌≡◌, ◌≢◌, ℕ, ◌+◌, ◌-◌, nat_lt, if◌then◌else◌, Bool, true, false, [], ◌∷◌, ◌++◌, length, slice_index, slice_set, Some, None, ◌^◌, ◌<◌, ◌≤◌}
use Rattle.atomic_table.specs.Table.{Me, Step}
use Rattle.cfi_word.specs.declared.limits.TheConstants.{GUESTS}
use Rattle.cfi_word.specs.Rank.{rank}
use Rattle.cfi_word.specs.Table.{Place, IsPlace, word_number, code_word}
use Rattle.cfi_model.specs.declared.history.Entry.{Entry}
use Rattle.cfi_model.specs.declared.history.Refusal.{Refusal}
use Rattle.cfi_model.specs.Quiet.{admits, quiet_in}
use Rattle.cfi_model.specs.Words.{next_epoch, word_at}
use Rattle.cfi_tables.specs.Key.{Key}
use Rattle.cfi_tables.specs.Keeping.{found_as, heard_as, heard_in, is_out}
use Rattle.cfi_tables.specs.Loads.{IsLoad, TellsEpoch, IsFetch}
use Rattle.cfi_tables.specs.Rule.{AgreesWith, TellsForce}
use Rattle.cfi_model.specs.Words.{HasStore}
use Rattle.cfi_tables.specs.Views.{admitted, held_by, keeper_of, keeping_of, noted, parked, pass_of, tables_of}
use Rattle.cfi_tables.specs.declared.view.KeeperView.{KeeperView}
use Rattle.cfi_tables.specs.declared.view.PassView.{PassView}
use Rattle.cfi_tables.specs.declared.view.View.{View}
use Rattle.cfi_tables.specs.declared.view.View.TheVariants.{Keeper, Pass, Spent}

-- a seat without slots
abbrev pub Seated : Type 0
Seated = Me (Unit {0}) View

-- ---- the keeper's stores

-- the stores are made up to the word of this rank
abbrev pub stored_to : (rank : ℕ) → KeeperView → KeeperView
stored_to rank u = record u { stored = rank + 1 }

-- a store of an update
abbrev pub Stores : Key → Step (Unit {0}) → Seated → (found : ℕ) → Seated → Type 0
Stores k s old found new = new ≡ (Keeper (stored_to (rank k.code_words s.word) (keeper_of old.0)), old.1)

-- the keeper's load of a word that updates store
pub record Looks (k : Key) (s : Step (Unit {0})) (old : Seated) (found : ℕ) (new : Seated) : Type 0 where
  pub same : new ≡ old
  pub is : (place : Place) → IsPlace k.code_words place → HasStore place → word_number k.code_words place ≡ s.word
      → found ≡ word_at (tables_of k (keeper_of old.0)) place

-- ---- the keeper's test of a QUIET word

-- it has loaded the word of the guest whose turn it is
abbrev pub loaded : (word : ℕ) → KeeperView → KeeperView
loaded word u = record u { quiets = found_as u.tested word u.quiets }

-- the word admits the next update
abbrev pub is_passed : Key → KeeperView → (word : ℕ) → Bool
is_passed k u word = admits k.versions (next_epoch (tables_of k u)) (quiet_in word)

-- the update with one entry more, of which no word is stored
abbrev pub grown : Entry → KeeperView → KeeperView
grown entry u = record u { entries = u.entries ++ entry ∷ []; stored = 0; asked = None; tested = 0 }

-- the test goes on, or has passed all words
abbrev pub test_passed : Entry → KeeperView → KeeperView
test_passed entry u =
    if nat_lt (u.tested + 1) GUESTS then record u { asked = Some entry; tested = u.tested + 1 } else grown entry u

-- or it ends
abbrev pub test_refusal : Key → (mark : ℕ) → KeeperView → (word : ℕ) → Refusal
test_refusal k mark u word =
    record { guest = u.tested; quiet = word - 1; epoch = next_epoch (tables_of k u); mark = mark }

-- the update that was asked for is not admitted
abbrev pub refused : Refusal → KeeperView → KeeperView
refused refusal u = record u { asked = None; tested = 0; refusals = u.refusals ++ refusal ∷ [] }

-- what a test of a QUIET word makes: the next guest's turn, or a refusal
abbrev pub tested_by : Key → Entry → (word : ℕ) → KeeperView → KeeperView
tested_by k entry word u =
    if is_passed k u word then test_passed entry (loaded word u)
    else refused (test_refusal k entry.mark u word) (loaded word u)

-- a word that is not 0 is that of a pass that is out, whose guest is parked, or tells an epoch that is or was in force;
-- it tells nothing less than what the keeper knew that its guest had published
pub record Tests (k : Key) (entry : Entry) (s : Step (Unit {0})) (old : Seated) (found : ℕ) (new : Seated)
    : Type 0 where
  pub is : new ≡ (Keeper (tested_by k entry found (keeper_of old.0)), old.1)
  pub out : found ≢ 0 → is_out (keeper_of old.0).out (keeper_of old.0).tested ≡ true
  pub tells : TellsForce k (keeper_of old.0) found
  pub later : let known = slice_index (keeper_of old.0).quiets.heard (keeper_of old.0).tested in
      known ≤ heard_in found known

-- ---- a pass's loads and stores

-- a pass loads a word that tells an epoch
pub record Loads (k : Key) (s : Step (Unit {0})) (old : Seated) (found : ℕ) (new : Seated) : Type 0 where
  pub same : new ≡ (Pass (pass_of new.0), old.1)
  pub load : (place : Place) → IsPlace k.code_words place → TellsEpoch place
      → word_number k.code_words place ≡ s.word → IsLoad k place found (pass_of old.0) (pass_of new.0)

-- a pass fetches a word of the code
pub record Fetches (k : Key) (s : Step (Unit {0})) (old : Seated) (found : ℕ) (new : Seated) : Type 0 where
  pub same : new ≡ (Pass (pass_of new.0), old.1)
  pub small : found < 2 ^ 32
  pub fetch : (index : ℕ) → index < k.code_words → code_word index ≡ s.word
      → IsFetch k index found (pass_of old.0) (pass_of new.0)

-- the guest parks
abbrev pub Parks : Step (Unit {0}) → Seated → (found : ℕ) → Seated → Type 0
Parks s old found new = new ≡ (Pass (parked (pass_of old.0)), old.1)

-- it publishes the latest epoch that it has seen, which is not below the one that it had published, and is not parked
abbrev pub published : PassView → PassView
published p = record p { quiet = p.sight.latest; parked = false }

-- a pass publishes an epoch that is not before its last
pub record Publishes (s : Step (Unit {0})) (old : Seated) (found : ℕ) (new : Seated) : Type 0 where
  pub is : new ≡ (Pass (published (pass_of old.0)), old.1)
  pub later : (pass_of old.0).quiet ≤ (pass_of old.0).sight.latest

-- ---- the keeper's steps for a pass that it holds

-- a guest is registered, by a store of its QUIET word
abbrev pub registered : Key → (guest : ℕ) → KeeperView → KeeperView
registered k guest u = record u {
  out = slice_set u.out guest true;
  quiets = heard_as guest (k.first + length u.entries) u.quiets;
  held = Some (admitted k (keeping_of u) guest);
}

-- the keeper registers a guest
abbrev pub Registers : Key → Step (Unit {0}) → Seated → (found : ℕ) → Seated → Type 0
Registers k s old found new = new ≡ (Keeper (registered k (s.word - 1) (keeper_of old.0)), old.1)

-- what the keeper has last found of the guest of the pass that it holds is not above what this has published
abbrev pub IsHeard : KeeperView → Type 0
IsHeard u = slice_index u.quiets.heard (held_by u.held).guest ≤ (held_by u.held).quiet + 1

-- the pass that is held is told all that the keeper has seen, and the keeper hears what its guest has published; what
-- the pass has seen agrees with what the keeper has
abbrev pub told : Key → KeeperView → KeeperView
told k u = record u {
  quiets = heard_as (held_by u.held).guest ((held_by u.held).quiet + 1) u.quiets;
  held = Some (noted k (keeping_of u) (held_by u.held));
}

-- the keeper tells the pass that it holds what it has seen
pub record Tells (k : Key) (s : Step (Unit {0})) (old : Seated) (found : ℕ) (new : Seated) : Type 0 where
  pub is : new ≡ (Keeper (told k (keeper_of old.0)), old.1)
  pub agrees : AgreesWith k (keeper_of old.0).entries (keeper_of old.0).refusals (held_by (keeper_of old.0).held).sight
  pub heard : IsHeard (keeper_of old.0)

-- its guest is registered no more, by a store of 0 in its QUIET word
abbrev pub cleared : KeeperView → KeeperView
cleared u = record u {
  out = slice_set u.out (held_by u.held).guest false;
  quiets = heard_as (held_by u.held).guest 0 u.quiets;
  held = None;
}

-- the keeper takes a guest's pass back and clears its word
pub record Clears (k : Key) (s : Step (Unit {0})) (old : Seated) (found : ℕ) (new : Seated) : Type 0 where
  pub is : new ≡ (Keeper (cleared (keeper_of old.0)), old.1)
  pub agrees : AgreesWith k (keeper_of old.0).entries (keeper_of old.0).refusals (held_by (keeper_of old.0).held).sight
  pub heard : IsHeard (keeper_of old.0)

-- ---- seats that come and go

-- the pass that is held gets a seat
abbrev pub left_view : View → View
left_view (Keeper u) = Keeper (record u { held = None })
left_view (Pass p) = Pass p
left_view Spent = Spent

-- the view of a pass that the keeper gives out
abbrev pub seat_view : View → View
seat_view (Keeper u) = Pass (held_by u.held)
seat_view (Pass p) = Spent
seat_view Spent = Spent

-- a pass gives up its seat, and is held
abbrev pub returned_view : View → View → View
returned_view (Keeper u) (Pass p) = Keeper (record u { held = Some p })
returned_view (Keeper u) (Keeper v) = Keeper u
returned_view (Keeper u) Spent = Keeper u
returned_view (Pass p) other = Pass p
returned_view Spent other = Spent
