-- What is known of words that are read for units.
use Rattle.std.specs.Prelude.{◌≡◌, ℕ, ◌*◌, ◌<◌, List, length, ⊤}
use Rattle.cfi_verify.specs.declared.fault.VerifyFault.{VerifyFault}
use Rattle.cfi_verify.specs.declared.fault.VerifyFault.TheVariants.{Illegal, NotUnit, Memory}
use Rattle.cfi_unit.specs.Spots.{IsInsnAt, InsnsBelow}
use Rattle.cfi_verify.specs.Spots.{IsNotUnit}

-- the first word that is none
pub record IsFirstIllegal (words : List ℕ) (at : ℕ) : Type 0 where
  pub within : at < length words
  pub fails : ¬ IsInsnAt words at
  pub before : InsnsBelow words at

-- the fault of words that are no units
abbrev pub IsUnread : (words : List ℕ) → VerifyFault → Type 0
IsUnread words (Illegal o) = (at : ℕ) × (o ≡ 4 * at) × IsFirstIllegal words at
IsUnread words (NotUnit o) = InsnsBelow words (length words) × IsNotUnit words o
IsUnread words Memory = ⊤
IsUnread words fault = ⊥
