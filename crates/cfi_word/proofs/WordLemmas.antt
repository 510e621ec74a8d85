-- Fields of table words read back.
use Rattle.std.proofs.Common.{◌≡◌, ℕ, ◌%◌, ◌^◌, ◌<◌, ◌≤◌, arith}
use Rattle.cfi_word.specs.Ids.{IsField, id_of}
use Rattle.cfi_word.specs.Word.{IsPackable, packed, id_in, policy_in, epoch_in}
use Rattle.cfi_word.proofs.IdLemmas.{id_of-lt}

-- the version of an epoch is a field
pub IsField-version : (epoch versions : ℕ) → 3 ≤ versions → versions ≤ 16384 → IsField (epoch % versions)
IsField-version epoch versions least most = omega arith

-- the ID of a table word has 32 bits
id-lt : (epoch policy class versions : ℕ) → IsPackable epoch policy class versions
    → id_of class (epoch % versions) < 2 ^ 32
id-lt epoch policy class versions p =
    id_of-lt class (epoch % versions) p.class_fits (IsField-version epoch versions p.versions_least p.versions_most)

pub id_in-packed : (epoch policy class versions : ℕ) → IsPackable epoch policy class versions
    → id_in (packed epoch policy class versions) ≡ id_of class (epoch % versions)
unfolding id_in packed
id_in-packed epoch policy class versions p = omega (arith, id-lt epoch policy class versions p)

pub policy_in-packed : (epoch policy class versions : ℕ) → IsPackable epoch policy class versions
    → policy_in (packed epoch policy class versions) ≡ policy
unfolding policy_in packed
policy_in-packed epoch policy class versions p = omega (arith, id-lt epoch policy class versions p)

pub epoch_in-packed : (epoch policy class versions : ℕ) → IsPackable epoch policy class versions
    → epoch_in (packed epoch policy class versions) ≡ epoch
unfolding epoch_in packed
epoch_in-packed epoch policy class versions p = omega (arith, id-lt epoch policy class versions p)
