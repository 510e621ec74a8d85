use Rattle.std.proofs.Common.{◌<◌, refl, sym, ap, subst, ◌∙◌}
use Rattle.atomic_table.specs.Seated.{TableId}
use Rattle.cfi_slips.specs.inner.Steps.{Seated}
use Rattle.cfi_slips.proofs.StepLemmas.{leave_splits, vacate_splits}
use Rattle.cfi_slips.proofs.stubs.Stubs.tell.Goals as goal

pub split_seat-vacant-requires : goal.split_seat-vacant-requires
split_seat-vacant-requires g c =
    let i = c.self.invariant in (
      i.seat.table_is ∙ sym i.seat.words_are,
      subst (λ (t : TableId). 0 < t.words) (sym i.seat.words_are) i.seat.some,
      vacate_splits _ _,
    )

pub split_seat-requires : goal.split_seat-requires
split_seat-requires g c =
    let h = c.hold.ensures in (
      h.table_is ∙ sym h.words_are,
      subst (λ (t : TableId). 0 < t.words) (sym h.words_are) h.some,
      leave_splits _ _ _ _ h.id_is (ap (λ (z : Seated). z.0) h.me_is) refl,
    )
