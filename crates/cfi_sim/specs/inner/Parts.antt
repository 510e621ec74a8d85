-- Parts of a report, guest by guest.
use Rattle.std.specs.Prelude.{◌≡◌, ℕ, List, length, slice_get, Some}
use Rattle.cfi_model.specs.Raw.{Raw}
use Rattle.cfi_guest_part.specs.Part.{part_of}
use Rattle.cfi_plan.specs.declared.plan.Plan.{Plan}
use Rattle.cfi_report.specs.declared.report.GuestPart.{GuestPart}

-- a guest of the plan says this
pub record IsPartOf (plan : Plan) (guests : List Raw) (number : ℕ) (part : GuestPart) : Type 0 where
  pub r : Raw
  pub there : slice_get guests number ≡ Some r
  pub entry : slice_get plan.guests number ≡ Some part.entry
  pub told : part ≡ part_of number part.entry r

-- so do those below a number
pub record ArePartsOf (plan : Plan) (guests : List Raw) (number : ℕ) (parts : List GuestPart) : Type 0 where
  pub count : length parts ≡ number
  pub each : (k : ℕ) (part : GuestPart) → slice_get parts k ≡ Some part → IsPartOf plan guests k part
