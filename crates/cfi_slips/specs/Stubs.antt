-- What the stubs of some slips say, and what a slip says.
use Rattle.std.specs.Prelude.{ℕ, List, Bool, true, false, [], ◌++◌, replicate, slice_index_or, slice_set, Option, Some, None}
use Rattle.atomic_table.specs.Seated.{TableId}
use Rattle.cfi_plan.specs.declared.journal.Entry.{Entry}
use Rattle.cfi_plan.specs.declared.journal.JournalLine.{JournalLine}
use Rattle.cfi_word.specs.declared.limits.TheConstants.{GUESTS}
use Rattle.cfi_slips.specs.Lines.{lines_of}
use Rattle.cfi_slips.specs.declared.view.SlipView.{SlipView}
use Rattle.cfi_slips.specs.declared.view.StubsView.{StubsView}
use Rattle.cfi_slips.specs.declared.view.View.{View}
use Rattle.cfi_slips.specs.declared.view.View.TheVariants.{Stubs, Slip, Spent}

-- the lines that were told by a slip, each with its guest, and for each guest number whether its slip is out
pub record Sheet : Type 0 where
  pub told : List Entry
  pub out : List Bool

-- none was told, and none is out
abbrev pub opened_sheet : Sheet
opened_sheet = record { told = []; out = replicate GUESTS false }

-- the slip of the guest is out
abbrev pub is_out : List Bool → (guest : ℕ) → Bool
is_out out guest = slice_index_or out guest false

-- the slip of a guest, of all that was told
abbrev pub slip_by : (guest : ℕ) → (told : List Entry) → SlipView
slip_by guest told = record { guest = guest; lines = lines_of guest told }

-- a slip with more lines
abbrev pub with_lines : (more : List JournalLine) → SlipView → SlipView
with_lines more p = record p { lines = p.lines ++ more }

-- stubs with more lines
abbrev pub with_told : (more : List Entry) → Sheet → Sheet
with_told more sheet = record sheet { told = sheet.told ++ more }

-- a guest's slip goes out, or comes back
abbrev pub issued : (guest : ℕ) → Sheet → Sheet
issued guest sheet = record sheet { out = slice_set sheet.out guest true }

-- the slip of the guest is back
abbrev pub taken : (guest : ℕ) → Sheet → Sheet
taken guest sheet = record sheet { out = slice_set sheet.out guest false }

-- ---- views

-- what the stubs say, where they hold no slip
abbrev pub idle_view : Sheet → StubsView
idle_view sheet = record { told = sheet.told; out = sheet.out; held = None }

-- the view of the first stubs
abbrev pub opened_view : View
opened_view = Stubs (idle_view opened_sheet)

-- the slip's view, where the seat is a slip's
abbrev pub no_slip : SlipView
no_slip = record { guest = 0; lines = [] }

-- the slip of a view, or none
abbrev pub slip_of : View → SlipView
slip_of (Stubs u) = no_slip
slip_of (Slip p) = p
slip_of Spent = no_slip

-- that of the stubs, where it is theirs
abbrev pub no_stubs : StubsView
no_stubs = record { told = []; out = []; held = None }

-- the stubs of a view, or none
abbrev pub stubs_of : View → StubsView
stubs_of (Stubs u) = u
stubs_of (Slip p) = no_stubs
stubs_of Spent = no_stubs

-- the slip that they hold
abbrev pub held_by : Option SlipView → SlipView
held_by None = no_slip
held_by (Some p) = p

-- the name of none
abbrev pub no_slips : TableId
no_slips = record { words = 0; slots = 0; views_name = 0; atom = 0; block = 0; offset = 0; slot_names = [] }
