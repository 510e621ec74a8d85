-- Where the guests of a plan begin, among the start modules.
use Rattle.std.specs.Prelude.{◌≡◌, ℕ, ◌<◌, List, slice_get, Some}
use Rattle.cfi_aux.specs.declared.placed.Placed.{Placed}
use Rattle.cfi_plan.specs.declared.plan.Plan.{Plan}
use Rattle.cfi_valid.specs.Guests.{Enters, HasEntry}
use Rattle.cfi_valid.specs.Loaded.{LoadedModule}

-- the guests below a number have an address to begin at
abbrev pub EnterBelow : Plan → List Placed → (number : ℕ) → Type 0
EnterBelow plan starts number = (k : ℕ) (entry : List ℕ) → k < number → slice_get plan.guests k ≡ Some entry
    → Enters plan starts entry

-- and all
abbrev pub AllEnter : Plan → List Placed → Type 0
AllEnter plan starts = (guest : ℕ) (entry : List ℕ) → slice_get plan.guests guest ≡ Some entry
    → Enters plan starts entry

-- the guest of this number is the first that has none
pub record IsFirstOut (plan : Plan) (starts : List Placed) (number : ℕ) : Type 0 where
  pub entry : List ℕ
  pub is : slice_get plan.guests number ≡ Some entry
  pub lost : ¬ Enters plan starts entry
  pub before : EnterBelow plan starts number

-- so they have where the start modules are those of the loaded ones
abbrev pub HaveEntries : Plan → List LoadedModule → Type 0
HaveEntries plan loaded =
    (guest : ℕ) (entry : List ℕ) → slice_get plan.guests guest ≡ Some entry → HasEntry plan loaded entry
