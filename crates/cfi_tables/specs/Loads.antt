-- What a guest's load of a table word tells its pass. Epochs are numbers; an address is in bytes.
use Rattle.std.specs.Prelude.{◌≡◌, ℕ, ◌+◌, ◌-◌, ◌*◌, ◌/◌, ◌%◌, ◌≤◌, ◌<◌, ◌⊎◌, max, nat_le, if◌then◌else◌, [], ◌∷◌, ◌++◌, List, length, slice_index_or, Option, ⊤, slice_index, ◌≢◌, false}
use mathlib.Core.List.{IsPrefix}
use Rattle.cfi_word.specs.declared.map.TheConstants.{TARY, BARY, CODE_BYTES}
use Rattle.cfi_word.specs.Table.{Place, slots_of, word_number}
use Rattle.cfi_word.specs.Table as places
use Rattle.cfi_word.specs.Word.{epoch_in}
use Rattle.cfi_model.specs.declared.history.Access.{Access}
use Rattle.cfi_model.specs.declared.history.Entry.{Entry}
use Rattle.cfi_model.specs.InForce.{tary_index}
use Rattle.cfi_model.specs.declared.history.Moment.{Moment}
use Rattle.cfi_model.specs.TableMoments.{IsBy}
use Rattle.cfi_model.specs.Words.{no_entry, entry_word, word_at}
use Rattle.cfi_model.specs.History.{IsFair}
use Rattle.cfi_model.specs.Tables.{IsTables}
use Rattle.cfi_tables.specs.Fair.{history_at, kept_of}
use Rattle.cfi_tables.specs.Key.{Key}
use Rattle.cfi_tables.specs.Views.{last_moment, last_tables, tables_with}
use Rattle.cfi_tables.specs.declared.view.PassView.{PassView}
use Rattle.cfi_tables.specs.declared.view.Sight.{Sight}

-- the address of a branch slot's ID, or that of a code address
abbrev pub IsBaryAddress : (code_words address : ℕ) → Type 0
IsBaryAddress code_words address =
    (BARY ≤ address) × (address < BARY + 4 * slots_of code_words) × (address % 4 ≡ 0)

-- an address in the table of targets, in bytes
abbrev pub IsTaryAddress : (address : ℕ) → Type 0
IsTaryAddress address = (TARY ≤ address) × (address < TARY + CODE_BYTES) × (address % 4 ≡ 0)

-- an address of which a guest may ask for a word of the tables
abbrev pub IsTableAddress : (code_words address : ℕ) → Type 0
IsTableAddress code_words address = IsBaryAddress code_words address ⊎ IsTaryAddress address

-- the word that answers it
abbrev pub place_at : (code_words address : ℕ) → Place
place_at code_words address =
    if nat_le BARY address then places.Bary ((address - BARY) / 4)
    else places.Tary (tary_index code_words (address - TARY))

-- the word at a place, of one of these entries
abbrev pub word_of_number : Key → List Entry → (number : ℕ) → Place → ℕ
word_of_number k entries number place =
    entry_word k.versions (k.first + number) (slice_index_or entries number no_entry) place

-- the word of a place in one of the entries
pub record IsWordOf (k : Key) (entries : List Entry) (place : Place) (found : ℕ) : Type 0 where
  pub number : ℕ
  pub within : number < length entries
  pub is : found ≡ word_of_number k entries number place

-- the place's word tells an epoch
abbrev pub TellsEpoch : Place → Type 0
TellsEpoch places.Epoch = ⊤
TellsEpoch (places.Tary index) = ⊤
TellsEpoch (places.Bary slot) = ⊤
TellsEpoch (places.Code index) = ⊥
TellsEpoch (places.Quiet guest) = ⊥

-- what a word tells of the greatest epoch that was seen in force, and which that is then: a Tary word is of no earlier
-- epoch, a Bary word of the one before at the earliest
abbrev pub Tells : Place → (found before after : ℕ) → Type 0
Tells places.Epoch found before after = (before ≤ epoch_in found) × (after ≡ epoch_in found)
Tells (places.Tary index) found before after = (before ≤ epoch_in found) × (after ≡ before)
Tells (places.Bary slot) found before after = (before ≤ epoch_in found + 1) × (after ≡ max before (epoch_in found))
Tells (places.Code index) found before after = ⊤
Tells (places.Quiet guest) found before after = ⊤

-- the load of the word at a place
abbrev pub access_of : (code_words : ℕ) → Place → (found : ℕ) → Moment → Access
access_of code_words place found moment =
    record { word = word_number code_words place; found = found; moment = moment }

-- The moment of a load: what was found is the word at the place in the tables of this load, to which those of the load
-- before go on; and it is one word more that was loaded.
pub record IsLoadNow (k : Key) (place : Place) (found : ℕ) (old new : Sight) : Type 0 where
  pub had : IsPrefix old.had new.had
  pub order : IsBy (last_moment k old) (last_moment k new)
  pub tables : IsTables (last_tables k new)
  pub is : found ≡ word_at (last_tables k new) place
  pub accesses : new.accesses ≡ old.accesses ++ access_of k.code_words place found (last_moment k new) ∷ []

-- a Tary word is fair to the Bary word that is kept
abbrev pub IsFairAt : Key → (kept : Option ℕ) → Place → (found : ℕ) → Type 0
IsFairAt k kept places.Epoch found = ⊤
IsFairAt k kept (places.Tary index) found = IsFair (history_at k) kept found
IsFairAt k kept (places.Bary slot) found = ⊤
IsFairAt k kept (places.Code index) found = ⊤
IsFairAt k kept (places.Quiet guest) found = ⊤

-- a guest that is parked loads EPOCH alone
abbrev pub MayLoad : PassView → Place → Type 0
MayLoad p place = (p.parked ≡ false) ⊎ (place ≡ places.Epoch)

-- what a pass knows after a load: what it found is the word of this moment, and is of an entry that it has seen then,
-- which are entries of tables
pub record IsLoad (k : Key) (place : Place) (found : ℕ) (old new : PassView) : Type 0 where
  pub guest : new.guest ≡ old.guest
  pub quiet : new.quiet ≡ old.quiet
  pub parked : new.parked ≡ old.parked
  pub refusals : new.sight.refusals ≡ old.sight.refusals
  pub now : IsLoadNow k place found old.sight new.sight
  pub grows : IsPrefix old.sight.entries new.sight.entries
  pub tables : IsTables (tables_with k new.sight.entries)
  pub word : IsWordOf k new.sight.entries place found
  pub epoch : epoch_in found ≡ k.first + word.number
  pub tells : Tells place found old.sight.latest new.sight.latest
  pub fair : IsFairAt k (kept_of k old.sight.accesses) place found

-- what a pass knows after a quiescent point: a load of EPOCH, and a store of the epoch found, which is not below the
-- one that was published before, in the guest's QUIET word, by which the guest is parked no more
pub record IsQuiet (k : Key) (epoch : ℕ) (old new : PassView) : Type 0 where
  pub found : ℕ
  pub epoch_is : epoch ≡ epoch_in found
  pub quiet : new.quiet ≡ epoch
  pub later : old.quiet ≤ epoch
  pub parked : new.parked ≡ false
  pub load : IsLoad k places.Epoch found old (record new { quiet = old.quiet; parked = old.parked })

-- what a pass knows after the fetch of a code word: it is the word of this moment; and that of an entry which the pass
-- has seen, if not 0, is what it found
pub record IsFetch (k : Key) (index found : ℕ) (old new : PassView) : Type 0 where
  pub is : new ≡ record old {
    sight = record old.sight {
      accesses = new.sight.accesses;
      had = new.sight.had;
      stored = new.sight.stored;
    };
  }
  pub now : IsLoadNow k (places.Code index) found old.sight new.sight
  pub code : (number : ℕ) → number < length old.sight.entries
      → slice_index (slice_index_or old.sight.entries number no_entry).image.code index ≢ 0
      → found ≡ slice_index (slice_index_or old.sight.entries number no_entry).image.code index
