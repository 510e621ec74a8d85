use Rattle.std.proofs.Common.{◌<◌, ℕ, List, refl, sym, ap, subst, ◌∙◌}
use Rattle.atomic_table.specs.Seated.{TableId}
use Rattle.cfi_plan.specs.declared.journal.Entry.{Entry}
use Rattle.cfi_slips.specs.Lines.{AreOf}
use Rattle.cfi_slips.specs.Stubs.{idle_view, slip_of}
use Rattle.cfi_slips.specs.inner.Seats.{sheet_at}
use Rattle.cfi_slips.specs.inner.Steps.{Seated}
use Rattle.cfi_slips.proofs.StepLemmas.{tell_joins}
use Rattle.cfi_slips.proofs.stubs.hold.Goals as goal

pub join_seat-requires : goal.join_seat-requires
join_seat-requires g c =
    let r = c.requires in (
      r.seat.table_is ∙ sym r.seat.words_are,
      r.slip.table_is ∙ sym r.seat.words_are,
      ap (λ (z : Seated). z.1) r.slip.me_is,
      subst (λ (t : TableId). 0 < t.words) (sym r.seat.words_are) r.seat.some,
      tell_joins g.A.Tells.more _ _ _ _ (idle_view (sheet_at c.args.seat.now.me)) (slip_of c.args.slip.me.0)
          r.seat.id_is (ap (λ (z : Seated). z.0) r.seat.me_is) (ap (λ (z : Seated). z.0) r.slip.me_is) refl
          (subst (λ (z : ℕ × List Entry). AreOf z.0 z.1) (λ i. (r.slip.guest_is i, sym r.told i)) r.of),
    )
