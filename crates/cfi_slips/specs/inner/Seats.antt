-- Slips and stubs as they are kept.
use Rattle.std.specs.Prelude.{◌≡◌, ℕ, ◌<◌, [], length}
use Rattle.atomic_table.specs.Seated.{TableId}
use Rattle.cfi_word.specs.declared.limits.TheConstants.{GUESTS}
use Rattle.cfi_slips.specs.Stubs.{Sheet, idle_view, opened_view, slip_of, stubs_of}
use Rattle.cfi_slips.specs.inner.Steps.{Seated}
use Rattle.cfi_slips.specs.declared.pad.Pad.TheInside.{Inside}
use Rattle.cfi_slips.specs.declared.view.StubsView.{StubsView}
use Rattle.cfi_slips.specs.declared.view.View.TheVariants.{Stubs, Slip}

-- what the stubs say, of their seat
abbrev pub sheet_at : Seated → Sheet
sheet_at me = record { told = (stubs_of me.0).told; out = (stubs_of me.0).out }

-- the seat of the stubs is at their word, and has this view
pub record IsAt (slips words at : TableId) (id : ℕ) (me : Seated) (u : StubsView) : Type 0 where
  pub words_are : words ≡ slips
  pub some : 0 < slips.words
  pub table_is : at ≡ slips
  pub id_is : id ≡ 0
  pub me_is : me ≡ (Stubs u, [])

-- and they hold no slip
pub record AreStubs (slips words at : TableId) (id : ℕ) (me : Seated) : Type 0 where
  pub seat : IsAt slips words at id me (idle_view (sheet_at me))
  pub many : length (sheet_at me).out ≡ GUESTS

-- a slip's seat
pub record IsSlip (slips at : TableId) (me : Seated) (guest : ℕ) : Type 0 where
  pub table_is : at ≡ slips
  pub me_is : me ≡ (Slip (slip_of me.0), [])
  pub guest_is : guest ≡ (slip_of me.0).guest

-- a pad is at its opening
pub record IsPad (a : Inside) : Type 0 where
  pub some : 0 < a.words.shared.table_id.words
  pub table : a.seat.table_id ≡ a.words.shared.table_id
  pub id : a.seat.id ≡ 0
  pub me : a.seat.me ≡ (opened_view, [])
