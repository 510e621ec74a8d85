-- The guests' parts, one after the other, and what taking their passes back leaves of a ledger.
use Rattle.std.specs.Prelude.{◌≡◌, ℕ, ◌<◌, ◌^◌, List, map, slice_get, Some}
use Rattle.std.specs.List.{AllByRecursion}
use Rattle.cfi_loader.specs.Ledger.{Ledger}
use Rattle.cfi_guest_part.specs.Part.{HasFields}
use Rattle.cfi_plan.specs.declared.plan.Plan.{Plan}
use Rattle.cfi_report.specs.declared.report.GuestPart.{GuestPart}
use Rattle.cfi_report.specs.declared.report.Report.{Report}
use Rattle.cfi_slips.specs.Lines.{lines_of}
use Rattle.cfi_tables.specs.Key.{Key}
use Rattle.cfi_guest_run.specs.Answered.{AreAnswered}
use Rattle.cfi_guest_run.specs.Ending.{IsPartAt, part_by}
use Rattle.cfi_guest_run.specs.Runner.{Ran}
use Rattle.cfi_guest_run.specs.inner.Lines.{HasEntryFields, HasModuleFields}

-- the part at each place is that of the guest of this number, in numbers of 32 bits, and logs the opens of the lines in
-- the guest's name
pub record ArePartsAt (k : Key) (l : Ledger) (parts : List GuestPart) : Type 0 where
  pub each : (number : ℕ) (part : GuestPart) → slice_get parts number ≡ Some part → IsPartAt k l number part
  pub opens : (number : ℕ) (part : GuestPart) → slice_get parts number ≡ Some part
      → AreAnswered part.log (lines_of number l.course.journal)
  pub fields : AllByRecursion HasFields parts

-- passes were taken back, and nothing else has changed that a part tells of
pub record HasLetIn (old new : Ledger) : Type 0 where
  pub course : new.course ≡ old.course
  pub entries : new.keeping.entries ≡ old.keeping.entries

-- the passes of these runners were taken back: their parts, by number
pub record AreTaken (k : Key) (plan : Plan) (old new : Ledger) (runners : List Ran) (parts : List GuestPart)
    : Type 0 where
  pub say : parts ≡ map (part_by plan) runners
  pub each : ArePartsAt k old parts
  pub same : HasLetIn old new

-- the numbers of a report, but for those of its guests
pub record HasNumbers (report : Report) : Type 0 where
  pub epoch : report.epoch < 2 ^ 32
  pub policy : report.policy < 2 ^ 32
  pub modules : AllByRecursion HasModuleFields report.modules
  pub journal : AllByRecursion HasEntryFields report.journal
