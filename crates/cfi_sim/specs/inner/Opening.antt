-- What is opened of a plan so far.
use Rattle.std.specs.Prelude.{◌≡◌, ℕ, List, length, slice_get, Some, ⊤}
use Rattle.cfi_aux.specs.declared.modules.Module.{Module}
use Rattle.cfi_aux.specs.declared.placed.Placed.{Placed}
use Rattle.cfi_ledger.specs.Opening.{IsOpenFault}
use Rattle.cfi_model.specs.Raw.{Raw, raw_opened}
use Rattle.cfi_plan.specs.declared.plan.Plan.{Plan}
use Rattle.cfi_sim.specs.declared.fault.SimFault.{SimFault}
use Rattle.cfi_sim.specs.declared.fault.SimFault.TheVariants.{Open, BadEvent, Memory}
use Rattle.cfi_sim.specs.Valid.{IsStart}
use Rattle.cfi_sim.specs.inner.Standing.{Whole}
use Rattle.cfi_unit.specs.declared.fill.Fill.{Fill}
use Rattle.cfi_valid.specs.Guests.{EntersIn}

-- a guest stands at its entry
pub record IsGuestIn (plan : Plan) (starts : List Placed) (fills : List Fill) (number : ℕ) (entry : List ℕ) (r : Raw)
    : Type 0 where
  pub address : ℕ
  pub enters : EntersIn plan starts entry address
  pub is : r ≡ raw_opened number address fills

-- the guests below a number stand at their entries
pub record AreGuestsIn (plan : Plan) (starts : List Placed) (fills : List Fill) (number : ℕ) (guests : List Raw)
    : Type 0 where
  pub count : length guests ≡ number
  pub each : (k : ℕ) (r : Raw) (entry : List ℕ) → slice_get guests k ≡ Some r → slice_get plan.guests k ≡ Some entry
      → IsGuestIn plan starts fills k entry r

-- ---- both

-- the opening cannot be made for this fault; want of memory may always be
abbrev pub IsOpeningFault : Plan → List Module → SimFault → Type 0
IsOpeningFault plan modules (Open fault) = IsOpenFault plan modules fault
IsOpeningFault plan modules (BadEvent line) = ⊥
IsOpeningFault plan modules Memory = ⊤

-- the plan and its modules are opened
pub record IsOpened (plan : Plan) (modules : List Module) (x : Whole) : Type 0 where
  pub plan_is : x.plan ≡ plan
  pub modules_are : x.modules ≡ modules
  pub starts : IsStart plan modules x.stage
