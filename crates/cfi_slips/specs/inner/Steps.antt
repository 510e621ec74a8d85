-- What each kind of step makes of views.
use Rattle.std.specs.Prelude.{◌≡◌, ℕ, true, false, List, ◌++◌, slice_set, Some, None}
use Rattle.atomic_table.specs.Table.{Me, Step}
use Rattle.cfi_plan.specs.declared.journal.Entry.{Entry}
use Rattle.cfi_slips.specs.Lines.{lines_of}
use Rattle.cfi_slips.specs.Stubs.{held_by, slip_by, stubs_of, with_lines}
use Rattle.cfi_slips.specs.declared.view.SlipView.{SlipView}
use Rattle.cfi_slips.specs.declared.view.StubsView.{StubsView}
use Rattle.cfi_slips.specs.declared.view.View.{View}
use Rattle.cfi_slips.specs.declared.view.View.TheVariants.{Stubs, Slip, Spent}

-- a seat without slots
abbrev pub Seated : Type 0
Seated = Me (Unit {0}) View

-- the slip of the guest of the number that is stored goes out
abbrev pub issuing : (guest : ℕ) → StubsView → StubsView
issuing guest u = record u { out = slice_set u.out guest true; held = Some (slip_by guest u.told) }

-- a slip goes out
abbrev pub Issues : Step (Unit {0}) → Seated → (found : ℕ) → Seated → Type 0
Issues s old found new = new ≡ (Stubs (issuing s.first (stubs_of old.0)), old.1)

-- a slip gives up its seat: lines are told on it and on its stubs, which hold it
abbrev pub telling : (more : List Entry) → StubsView → SlipView → StubsView
telling more u p = record u { told = u.told ++ more; held = Some (with_lines (lines_of p.guest more) p) }

-- what is told in a slip's name, on either of both
abbrev pub told_view : (more : List Entry) → View → View → View
told_view more (Stubs u) (Slip p) = Stubs (telling more u p)
told_view more (Stubs u) (Stubs v) = Stubs u
told_view more (Stubs u) Spent = Stubs u
told_view more (Slip p) other = Slip p
told_view more Spent other = Spent

-- the slip that is held gets a seat
abbrev pub left_view : View → View
left_view (Stubs u) = Stubs (record u { held = None })
left_view (Slip p) = Slip p
left_view Spent = Spent

-- the view of the slip that goes out
abbrev pub seat_view : View → View
seat_view (Stubs u) = Slip (held_by u.held)
seat_view (Slip p) = Spent
seat_view Spent = Spent

-- or it is out no more, and has said what its stubs do
abbrev pub taking : StubsView → StubsView
taking u = record u { out = slice_set u.out (held_by u.held).guest false; held = None }

-- a slip comes back, which says what was told in its guest's name
pub record Takes (s : Step (Unit {0})) (old : Seated) (found : ℕ) (new : Seated) : Type 0 where
  pub is : new ≡ (Stubs (taking (stubs_of old.0)), old.1)
  pub says : (held_by (stubs_of old.0).held).lines
      ≡ lines_of (held_by (stubs_of old.0).held).guest (stubs_of old.0).told
