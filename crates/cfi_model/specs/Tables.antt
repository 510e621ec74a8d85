-- What holds of the tables at every moment.
use Rattle.std.specs.Prelude.{◌≡◌, ◌≢◌, ℕ, ◌+◌, ◌≤◌, ◌<◌, ◌⊎◌, length, slice_index, Option, Some, None, ⊤}
use Rattle.cfi_word.specs.declared.lists.Image.{Image}
use Rattle.cfi_word.specs.declared.limits.TheConstants.{GUESTS, MAX_EPOCH, MAX_POLICY, MIN_VERSIONS, MAX_VERSIONS}
use Rattle.cfi_word.specs.Table.{IsSize}
use Rattle.cfi_word.specs.Rank.{stores_of}
use Rattle.cfi_model.specs.declared.history.Entry.{Entry}
use Rattle.cfi_model.specs.Closed.{IsClosed}
use Rattle.cfi_model.specs.Words.{Tables, entry_at, newest, next_epoch}

-- an image's code keeps each word of another's that is not 0
abbrev pub KeepsCode : (old new : Image) → Type 0
KeepsCode old new =
    (place : ℕ) → slice_index old.code place ≢ 0 → slice_index new.code place ≡ slice_index old.code place

-- a refresh has the policy and the image of the entry before
pub record IsRefresh (old new : Entry) : Type 0 where
  pub policy : new.policy ≡ old.policy
  pub image : new.image ≡ old.image

-- a load has the next policy, and an image that keeps the code
pub record IsLoad (code_words : ℕ) (old new : Entry) : Type 0 where
  pub policy : new.policy ≡ old.policy + 1
  pub most : new.policy ≤ MAX_POLICY
  pub closed : IsClosed code_words new.image
  pub keeps : KeepsCode old.image new.image

-- an entry more is a refresh or a load
abbrev pub IsUpdate : (code_words : ℕ) → (old new : Entry) → Type 0
IsUpdate code_words old new = IsRefresh old new ⊎ IsLoad code_words old new

-- the update whose test is under way: all words are those of the newest entry
pub record IsAsked (t : Tables) (entry : Entry) : Type 0 where
  pub follows : IsUpdate t.code_words (entry_at t (newest t)) entry
  pub idle : t.stored ≡ stores_of t.code_words
  pub guest : t.tested < GUESTS
  pub fits : next_epoch t ≤ MAX_EPOCH

-- what may be asked for: no new entry, or one that the tables take
abbrev pub MayBeAsked : Tables → Option Entry → Type 0
MayBeAsked t None = ⊤
MayBeAsked t (Some entry) = IsAsked t entry

-- there is an entry, each follows the one before, their epochs and policies are within the limits and their images are
-- closed; where not all stores were made there is an entry before the newest
pub record IsTables (t : Tables) : Type 0 where
  pub size : IsSize t.code_words
  pub versions_least : MIN_VERSIONS ≤ t.versions
  pub versions_most : t.versions ≤ MAX_VERSIONS
  pub some : 1 ≤ length t.entries
  pub epochs_fit : next_epoch t ≤ MAX_EPOCH + 1
  pub policies_fit : (number : ℕ) → number < length t.entries → (entry_at t number).policy ≤ MAX_POLICY
  pub closed : (number : ℕ) → number < length t.entries → IsClosed t.code_words (entry_at t number).image
  pub follow : (number : ℕ) → number + 1 < length t.entries
      → IsUpdate t.code_words (entry_at t number) (entry_at t (number + 1))
  pub stored_most : t.stored ≤ stores_of t.code_words
  pub under_way : t.stored < stores_of t.code_words → 2 ≤ length t.entries
  pub asked_fits : MayBeAsked t t.asked
