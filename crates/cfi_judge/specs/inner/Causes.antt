-- The causes that a log tells, where those of spent versions are asked once a module.
use Rattle.std.specs.Prelude.{◌≡◌, ◌⊎◌, ◌<◌, ℕ, List, length, slice_get, Some}
use Rattle.cfi_unit.specs.declared.log.Log.{Log}
use Rattle.cfi_unit.specs.declared.log.Log.TheVariants.{Cause}
use Rattle.cfi_valid.specs.Course.{Course}
use Rattle.cfi_valid.specs.Log.{IsCaused, Why, why_of, NoModule, ModulesFull, NotPlaced, NotVerified, VersionsSpent, EpochsSpent, NoFunction, Retired, Unlogged}

-- all hold
abbrev pub HasCauses : Course → (guest : ℕ) → List Log → Type 0
HasCauses c guest log = (at number cause : ℕ) → slice_get log at ≡ Some (Cause number cause)
    → IsCaused c guest log at number (why_of cause)

-- ---- entry by entry

-- the cause holds, or it is that versions are spent, of a module of the plan: a case a cause
abbrev pub IsCausedApart : Course → (guest : ℕ) → List Log → (at number : ℕ) → Why → Type 0
IsCausedApart c guest log at number NoModule = IsCaused c guest log at number NoModule
IsCausedApart c guest log at number ModulesFull = IsCaused c guest log at number ModulesFull
IsCausedApart c guest log at number NotPlaced = IsCaused c guest log at number NotPlaced
IsCausedApart c guest log at number NotVerified = IsCaused c guest log at number NotVerified
IsCausedApart c guest log at number VersionsSpent =
    (number < length c.plan.modules) ⊎ IsCaused c guest log at number VersionsSpent
IsCausedApart c guest log at number EpochsSpent = IsCaused c guest log at number EpochsSpent
IsCausedApart c guest log at number NoFunction = IsCaused c guest log at number NoFunction
IsCausedApart c guest log at number Retired = IsCaused c guest log at number Retired
IsCausedApart c guest log at number Unlogged = IsCaused c guest log at number Unlogged

-- so does what the entry at a place says of one
abbrev pub HasCauseApart : Course → (guest : ℕ) → List Log → (at : ℕ) → Type 0
HasCauseApart c guest log at = (number cause : ℕ) → slice_get log at ≡ Some (Cause number cause)
    → IsCausedApart c guest log at number (why_of cause)

-- and each entry
abbrev pub HasCausesApart : Course → (guest : ℕ) → List Log → Type 0
HasCausesApart c guest log = (at : ℕ) → HasCauseApart c guest log at

-- ---- module by module

-- the journal tells of the spent versions of each module of the plan; the place of an entry says nothing of them
abbrev pub AreVersionsTold : Course → (guest : ℕ) → List Log → Type 0
AreVersionsTold c guest log =
    (number : ℕ) → number < length c.plan.modules → IsCaused c guest log 0 number VersionsSpent
