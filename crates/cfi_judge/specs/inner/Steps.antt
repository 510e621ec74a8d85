-- The steps of a part, where its units end in a state.
use Rattle.std.specs.Prelude.{◌≡◌, ◌⊎◌, ℕ, ◌+◌, ◌*◌, ◌≤◌, Bool, IsTrue, List, Some}
use Rattle.cfi_model.specs.Log.{pick_entries}
use Rattle.cfi_model.specs.State.{State}
use Rattle.cfi_report.specs.declared.report.GuestPart.{GuestPart}
use Rattle.cfi_unit.specs.declared.log.Log.{Log}
use Rattle.cfi_unit.specs.declared.log.Stop.TheVariants as stops
use Rattle.cfi_valid.specs.Steps.{HasSteps, MeetsCheck}
use Rattle.cfi_word.specs.declared.sizes.TheConstants.{RETRY_STEPS}

-- so many instructions are those of some repeated tries and of a unit that has not ended, of which there are so many at
-- the most; no try was repeated where that is said
pub record HasCount (over most : ℕ) (alone : Bool) : Type 0 where
  pub repeats : ℕ
  pub begun : ℕ
  pub sum : over ≡ RETRY_STEPS * repeats + begun
  pub few : begun ≤ most
  pub alone_is : IsTrue alone → repeats ≡ 0

-- no try can have been repeated
abbrev pub IsAlone : (code : List ℕ) → State → (single : Bool) → List Log → Type 0
IsAlone code last single log = IsTrue single ⊎ ((pick_entries log ≡ 0) × ¬ MeetsCheck code last)

-- the part says no more steps than the fuel, and as many where the fuel stopped it
pub record IsWithin (fuel : ℕ) (part : GuestPart) : Type 0 where
  pub most : part.steps ≤ fuel
  pub spent : part.stop ≡ Some stops.Fuel → part.steps ≡ fuel

-- its steps fit the state, and no try was repeated where that is said
pub record HasCounts (fuel : ℕ) (single : Bool) (code : List ℕ) (last : State) (part : GuestPart) : Type 0 where
  pub counts : HasSteps fuel code last part
  pub single_is : IsTrue single → counts.repeats ≡ 0
