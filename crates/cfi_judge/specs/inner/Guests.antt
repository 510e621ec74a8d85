-- The guests of a report, one by one, against a plan and its start modules.
use Rattle.std.specs.Prelude.{◌≡◌, ℕ, List, slice_get, Some}
use Rattle.cfi_aux.specs.declared.placed.Placed.{Placed}
use Rattle.cfi_plan.specs.declared.plan.Plan.{Plan}
use Rattle.cfi_report.specs.declared.report.GuestPart.{GuestPart}
use Rattle.cfi_valid.specs.Guests.{Enters}

-- the part is that of the plan's guest of this number, which begins somewhere among the start modules
pub record IsGuest (plan : Plan) (starts : List Placed) (number : ℕ) (part : GuestPart) : Type 0 where
  pub is : part.number ≡ number
  pub entry : slice_get plan.guests number ≡ Some part.entry
  pub enters : Enters plan starts part.entry

-- each part is so, by its place
abbrev pub AreGuests : Plan → (starts : List Placed) → (parts : List GuestPart) → Type 0
AreGuests plan starts parts =
    (number : ℕ) (part : GuestPart) → slice_get parts number ≡ Some part → IsGuest plan starts number part
