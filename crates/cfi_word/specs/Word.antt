-- Table words of 64 bits: the ID in bits 0 to 31, the policy number in bits 32 to 39, the epoch in bits 40 to 63.
-- The ID's version is the epoch's remainder by the number of versions.
use Rattle.std.specs.Prelude.{ℕ, ◌+◌, ◌*◌, ◌/◌, ◌%◌, ◌^◌, ◌≤◌}
use Rattle.cfi_word.specs.declared.limits.TheConstants.{MAX_EPOCH, MAX_POLICY, MIN_VERSIONS, MAX_VERSIONS}
use Rattle.cfi_word.specs.Ids.{IsField, id_of}

-- what a table word may be packed from
pub record IsPackable (epoch policy class versions : ℕ) : Type 0 where
  pub epoch_fits : epoch ≤ MAX_EPOCH
  pub policy_fits : policy ≤ MAX_POLICY
  pub class_fits : IsField class
  pub versions_least : MIN_VERSIONS ≤ versions
  pub versions_most : versions ≤ MAX_VERSIONS

-- the table word of an epoch, its policy and a class, under this many versions
unfoldable pub packed : (epoch policy class versions : ℕ) → ℕ
packed epoch policy class versions = id_of class (epoch % versions) + policy * 2 ^ 32 + epoch * 2 ^ 40

-- the ID, which is what a guest's load sees
unfoldable pub id_in : (word : ℕ) → ℕ
id_in word = word % 2 ^ 32

-- the policy number
unfoldable pub policy_in : (word : ℕ) → ℕ
policy_in word = word / 2 ^ 32 % 2 ^ 8

-- the epoch
unfoldable pub epoch_in : (word : ℕ) → ℕ
epoch_in word = word / 2 ^ 40
