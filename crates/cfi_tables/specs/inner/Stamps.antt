-- What the table words of one epoch have in common.
use Rattle.std.specs.Prelude.{ℕ, ◌≤◌}
use Rattle.cfi_word.specs.declared.limits.TheConstants.{MAX_EPOCH, MAX_POLICY, MIN_VERSIONS, MAX_VERSIONS}
use Rattle.cfi_word.specs.Word.{packed}
use Rattle.cfi_tables.specs.declared.stamp.Stamp.TheInside.{Inside}

-- what the words of one epoch share
pub record Stamp : Type 0 where
  pub epoch : ℕ
  pub policy : ℕ
  pub versions : ℕ

-- the word of a class in it
abbrev pub word_by : Stamp → (class : ℕ) → ℕ
word_by s class = packed s.epoch s.policy class s.versions

-- as it is kept
abbrev pub stamp_by : Inside → Stamp
stamp_by a = record { epoch = a.epoch; policy = a.policy; versions = a.versions }

-- its numbers can be packed into a table word
pub record IsStamp (a : Inside) : Type 0 where
  pub epoch : a.epoch ≤ MAX_EPOCH
  pub policy : a.policy ≤ MAX_POLICY
  pub least : MIN_VERSIONS ≤ a.versions
  pub most : a.versions ≤ MAX_VERSIONS
