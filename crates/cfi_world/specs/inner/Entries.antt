-- Entries as they are kept: a policy for each, and an image for each policy.
use Rattle.std.specs.Prelude.{◌≡◌, ℕ, ◌+◌, ◌-◌, ◌≤◌, ◌<◌, List, length, map, slice_index, slice_index_or, Option, Some, None, ⊤}
use Rattle.cfi_word.specs.declared.lists.Image.{Image}
use Rattle.cfi_word.specs.declared.limits.TheConstants.{MAX_POLICY}
use Rattle.cfi_model.specs.declared.history.Entry.{Entry}
use Rattle.cfi_model.specs.Words.{no_entry}

-- the entry of a policy
abbrev pub entry_by : List Image → (policy : ℕ) → Entry
entry_by images policy = record { policy = policy; image = slice_index_or images policy no_entry.image; mark = 0 }

-- the entries of policies, in order
abbrev pub entries_by : List Image → (policies : List ℕ) → List Entry
entries_by images policies = map (entry_by images) policies

-- the policy of the last entry
abbrev pub last_policy_of : (policies : List ℕ) → ℕ
last_policy_of policies = slice_index policies (length policies - 1)

-- the entry of an update; a refresh has no image
abbrev pub update_by : List Image → (policies : List ℕ) → Option Image → Entry
update_by images policies None = entry_by images (last_policy_of policies)
update_by images policies (Some image) = record {
  policy = last_policy_of policies + 1;
  image = image;
  mark = 0;
}

-- what was asked for, as an entry
abbrev pub asked_by : List Image → (policies : List ℕ) → Option (Option Image) → Option Entry
asked_by images policies None = None
asked_by images policies (Some image) = Some (update_by images policies image)

-- there is an entry, and each policy up to the last one has its image
pub record HaveImages (images : List Image) (policies : List ℕ) : Type 0 where
  pub some : 1 ≤ length policies
  pub last : length images ≡ last_policy_of policies + 1
  pub each : (number : ℕ) → number < length policies → slice_index policies number < length images

-- the next policy, where an image has one
abbrev pub FitsNext : (policies : List ℕ) → Option Image → Type 0
FitsNext policies None = ⊤
FitsNext policies (Some image) = last_policy_of policies + 1 ≤ MAX_POLICY
