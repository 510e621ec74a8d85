-- Which QUIET words admit an update, when it is refused, and what a refusal leaves.
use Rattle.std.specs.Prelude.{◌≡◌, ℕ, ◌+◌, ◌≤◌, ◌<◌, true, false, length, slice_index}
use Rattle.cfi_word.specs.declared.limits.TheConstants.{GUESTS, MAX_EPOCH}
use Rattle.cfi_model.specs.Quiet.{admits, quiet_in}
use Rattle.cfi_tables.specs.Key.{Key}
use Rattle.cfi_tables.specs.Keeping.{Keeping, heard_in, is_out, refused_by}
use Rattle.cfi_tables.specs.declared.fault.UpdateFault.{UpdateFault}
use Rattle.cfi_tables.specs.declared.view.Quiets.{Quiets}
use Rattle.cfi_tables.specs.declared.fault.UpdateFault.TheVariants.{EpochsSpent, VersionsSpent}

-- the epoch of the next update
abbrev pub epoch_after : Key → Keeping → ℕ
epoch_after k keeping = k.first + length keeping.entries

-- the QUIET words that were loaded of the guests below this one admit the next update
abbrev pub AdmitBelow : Key → Keeping → Quiets → (guest : ℕ) → Type 0
AdmitBelow k keeping quiets guest = (other : ℕ) → other < guest
    → admits k.versions (epoch_after k keeping) (quiet_in (slice_index quiets.found other)) ≡ true

-- and they tell what is known then of what these guests have published
abbrev pub HeardBelow : (old new : Quiets) (guest : ℕ) → Type 0
HeardBelow old new guest = (other : ℕ) → other < guest
    → slice_index new.heard other ≡ heard_in (slice_index new.found other) (slice_index old.heard other)

-- those of all guests admit it
pub record AllAdmit (k : Key) (keeping : Keeping) (quiets : Quiets) : Type 0 where
  pub many : length quiets.found ≡ GUESTS
  pub admit : AdmitBelow k keeping quiets GUESTS
  pub heard : HeardBelow keeping.quiets quiets GUESTS

-- nothing new is known of a guest
pub record IsSameOf (old new : Quiets) (guest : ℕ) : Type 0 where
  pub heard : slice_index new.heard guest ≡ slice_index old.heard guest
  pub found : slice_index new.found guest ≡ slice_index old.found guest

-- that of this guest is the first that does not, and tells this epoch; those of later ones were not loaded
pub record IsFirstBehind (k : Key) (keeping : Keeping) (quiets : Quiets) (guest quiet : ℕ) : Type 0 where
  pub word : slice_index quiets.found guest ≡ quiet + 1
  pub behind : admits k.versions (epoch_after k keeping) (quiet_in (slice_index quiets.found guest)) ≡ false
  pub admit : AdmitBelow k keeping quiets guest
  pub heard : HeardBelow keeping.quiets quiets (guest + 1)
  pub rest : (other : ℕ) → guest < other → IsSameOf keeping.quiets quiets other

-- no word that tells what a guest has published is less than it was when the keeper stored it, loaded it or heard of it
-- before: a guest never publishes an earlier epoch
pub record AreLater (old new : Quiets) : Type 0 where
  pub many : length new.heard ≡ length old.heard
  pub found_many : length new.found ≡ length old.found
  pub least : (guest : ℕ) → slice_index old.heard guest ≤ slice_index new.heard guest

-- a guest whose pass is out has published this epoch, which is or was in force, and it is too far behind
pub record IsFarBehind (k : Key) (keeping : Keeping) (guest quiet : ℕ) : Type 0 where
  pub within : guest < GUESTS
  pub out : is_out keeping.out guest ≡ true
  pub least : k.first ≤ quiet
  pub most : quiet < epoch_after k keeping
  pub far : quiet + k.versions < epoch_after k keeping + 2

-- there is one refusal more, by a QUIET word that was loaded
pub record IsRefused (k : Key) (mark guest quiet : ℕ) (old new : Keeping) : Type 0 where
  pub first : IsFirstBehind k old new.quiets guest quiet
  pub behind : IsFarBehind k old guest quiet
  pub is : new ≡ refused_by (record {
    guest = guest;
    quiet = quiet;
    epoch = epoch_after k old;
    mark = mark;
  }) new.quiets old

-- an update was refused for this fault; where no epoch is left nothing has changed
abbrev pub FaultIs : Key → (mark : ℕ) → (old new : Keeping) → UpdateFault → Type 0
FaultIs k mark old new EpochsSpent = (epoch_after k old ≡ MAX_EPOCH + 1) × (new ≡ old)
FaultIs k mark old new (VersionsSpent guest quiet) = IsRefused k mark guest quiet old new
