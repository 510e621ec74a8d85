-- One line more.
use Rattle.std.proofs.Common.{List, [], ◌∷◌, ◌++◌}
use Rattle.std.specs.List.{AllByRecursion}
use Rattle.cfi_guest_part.specs.Part.{HasFields}
use Rattle.cfi_plan.specs.declared.journal.Entry.{Entry}
use Rattle.cfi_plan.specs.declared.journal.ModuleLine.{ModuleLine}
use Rattle.cfi_report.specs.declared.report.GuestPart.{GuestPart}
use Rattle.cfi_guest_run.specs.inner.Lines.{HasEntryFields, HasModuleFields}

all_push : {A : Type 0} (P : A → Type 0) (xs : List A) (x : A) → AllByRecursion P xs → P x
    → AllByRecursion P (xs ++ x ∷ [])
all_push P [] x all one = (one, tt)
all_push P (a ∷ xs) x all one = (all.0, all_push P xs x all.1 one)

pub entries_push : (xs : List Entry) (x : Entry) → AllByRecursion HasEntryFields xs → HasEntryFields x
    → AllByRecursion HasEntryFields (xs ++ x ∷ [])
entries_push xs x all one = all_push HasEntryFields xs x all one

pub modules_push : (xs : List ModuleLine) (x : ModuleLine) → AllByRecursion HasModuleFields xs → HasModuleFields x
    → AllByRecursion HasModuleFields (xs ++ x ∷ [])
modules_push xs x all one = all_push HasModuleFields xs x all one

pub parts_push : (xs : List GuestPart) (x : GuestPart) → AllByRecursion HasFields xs → HasFields x
    → AllByRecursion HasFields (xs ++ x ∷ [])
parts_push xs x all one = all_push HasFields xs x all one
