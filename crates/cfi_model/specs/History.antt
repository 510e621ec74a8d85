-- The history of the tables: each epoch has a policy number and an image.
-- Epochs, policies and classes are numbers; addresses are in bytes, places are word numbers, from 0.
use Rattle.std.specs.Prelude.{◌≡◌, ◌≢◌, ℕ, ◌+◌, ◌/◌, ◌%◌, ◌≤◌, ◌<◌, ◌==◌, Bool, List, length, slice_index, Option, Some, None, ⊤}
use Rattle.cfi_word.specs.declared.lists.Image.{Image}
use Rattle.cfi_word.specs.declared.limits.TheConstants.{MAX_EPOCH, MAX_POLICY, MIN_VERSIONS, MAX_VERSIONS}
use Rattle.cfi_word.specs.Table.{IsSize}
use Rattle.cfi_word.specs.Word.{packed, epoch_in}
use Rattle.cfi_model.specs.Closed.{HasClasses, IsClosed, IsStartIn}

-- so many epochs from the first one on, that are or were in force, and so many behind them, of which Tary words alone
-- can be found; the number of versions, and for each epoch the number of its policy and its image
pub record History : Type 0 where
  pub first : ℕ
  pub count : ℕ
  pub ahead : ℕ
  pub versions : ℕ
  pub policy : ℕ → ℕ
  pub image : ℕ → Image

-- the history of one image, whose policy has the number 0
abbrev pub fixed : Image → History
fixed image = record {
  first = 0;
  count = 1;
  ahead = 0;
  versions = MAX_VERSIONS;
  policy = λ epoch. 0;
  image = λ epoch. image;
}

-- the epoch is or was in force
pub record IsEpoch (h : History) (epoch : ℕ) : Type 0 where
  pub least : h.first ≤ epoch
  pub most : epoch < h.first + h.count

-- or words of it can be found already
pub record IsSeen (h : History) (epoch : ℕ) : Type 0 where
  pub least : h.first ≤ epoch
  pub most : epoch < h.first + (h.count + h.ahead)

-- the class of a code address in an epoch's image, and that of a branch slot
abbrev pub target_class : History → (epoch address : ℕ) → ℕ
target_class h epoch address = slice_index (h.image epoch).tary (address / 4)

-- the class of a slot in an epoch
abbrev pub slot_class : History → (epoch slot : ℕ) → ℕ
slot_class h epoch slot = slice_index (h.image epoch).bary slot

-- an epoch's policy: a slot may go to the addresses that have its class
abbrev pub allows_at : History → (epoch : ℕ) → (slot target : ℕ) → Bool
allows_at h epoch slot target = slot_class h epoch slot == target_class h epoch target

-- the address is a start of some epoch's code
pub record IsStart (h : History) (address : ℕ) : Type 0 where
  pub epoch : ℕ
  pub known : IsEpoch h epoch
  pub starts : IsStartIn (h.image epoch) address

-- the table word of an epoch with this class
abbrev pub word_of : History → (epoch class : ℕ) → ℕ
word_of h epoch class = packed epoch (h.policy epoch) class h.versions

-- the word is the table word of one of the epochs, with the class that its place has in it
pub record IsTableWord (h : History) (Known : (epoch : ℕ) → Type 0) (class_of : ℕ → ℕ) (found : ℕ) : Type 0 where
  pub epoch : ℕ
  pub known : Known epoch
  pub is : found ≡ word_of h epoch (class_of epoch)

-- a slot's word is of an epoch that is or was in force; a target's may be of one ahead, whose Tary words come first
abbrev pub IsBaryWord : History → (slot found : ℕ) → Type 0
IsBaryWord h slot found = IsTableWord h (IsEpoch h) (λ epoch. slot_class h epoch slot) found

-- the word is one that the address's place in the table of targets had in an epoch that is seen
abbrev pub IsTaryWord : History → (address found : ℕ) → Type 0
IsTaryWord h address found = IsTableWord h (IsSeen h) (λ epoch. target_class h epoch address) found

-- a word that is found after the kept one is fair: equal versions are equal epochs
abbrev pub IsFair : History → (kept : Option ℕ) → (found : ℕ) → Type 0
IsFair h None found = ⊤
IsFair h (Some kept) found =
    epoch_in kept % h.versions ≡ epoch_in found % h.versions → epoch_in kept ≡ epoch_in found

-- the history's table words can be packed, its images are closed, and none that is or was in force takes back a word of
-- the code
pub record IsHistory (h : History) (code : List ℕ) : Type 0 where
  pub size : IsSize (length code)
  pub versions_least : MIN_VERSIONS ≤ h.versions
  pub versions_most : h.versions ≤ MAX_VERSIONS
  pub epochs_fit : (epoch : ℕ) → IsSeen h epoch → epoch ≤ MAX_EPOCH
  pub policies_fit : (epoch : ℕ) → IsSeen h epoch → h.policy epoch ≤ MAX_POLICY
  pub classes : (epoch : ℕ) → IsSeen h epoch → HasClasses (length code) (h.image epoch)
  pub closed : (epoch : ℕ) → IsEpoch h epoch → IsClosed (length code) (h.image epoch)
  pub kept : (epoch place : ℕ) → IsEpoch h epoch → slice_index (h.image epoch).code place ≢ 0
      → slice_index code place ≡ slice_index (h.image epoch).code place
