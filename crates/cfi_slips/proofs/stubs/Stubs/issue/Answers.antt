use Rattle.std.proofs.Common.{◌<◌, refl, sym, ap, subst, ◌∙◌, arith}
use Rattle.atomic_table.specs.Seated.{TableId}
use Rattle.cfi_slips.specs.Stubs.{Sheet, idle_view, is_out, slip_by, stubs_of}
use Rattle.cfi_slips.specs.inner.Seats.{sheet_at}
use Rattle.cfi_slips.specs.inner.Steps.{Seated, issuing}
use Rattle.cfi_slips.specs.declared.view.View.TheVariants.{Stubs}
use Rattle.cfi_slips.proofs.StepLemmas.{issue_allowed, leave_splits}
use Rattle.cfi_slips.proofs.stubs.Stubs.issue.Goals as goal

pub store-requires : goal.store-requires
store-requires g c =
    let i = c.self.invariant in
    let free = ap (λ (s : Sheet). is_out s.out c.args.guest) c.self.view_is ∙ c.requires.free in (
      i.seat.table_is ∙ sym i.seat.words_are,
      subst (λ (t : TableId). 0 < t.words) (sym i.seat.words_are) i.seat.some,
      issue_allowed _ _ _ c.from.result _ (idle_view (sheet_at c.self.inside.seat.me)) i.seat.id_is i.seat.me_is
          (omega (arith, i.many, c.requires.within, c.from.ensures))
          (ap (is_out (sheet_at c.self.inside.seat.me).out) c.from.ensures ∙ free),
    )

pub split_seat-seat-requires : goal.split_seat-seat-requires
split_seat-seat-requires g c =
    let i = c.self.invariant in
    let u = idle_view (sheet_at c.self.inside.seat.me) in
    let w = c.from.result in
    let s = c.store.ensures in
    let view = s.2 ∙ ap (λ (z : Seated). (Stubs (issuing w (stubs_of z.0)), z.1)) i.seat.me_is in (
      s.0 ∙ (i.seat.table_is ∙ sym i.seat.words_are),
      subst (λ (t : TableId). 0 < t.words) (sym i.seat.words_are) i.seat.some,
      leave_splits _ _ (issuing w u) (slip_by w u.told) (s.1 ∙ i.seat.id_is) (ap (λ (z : Seated). z.0) view) refl,
    )
