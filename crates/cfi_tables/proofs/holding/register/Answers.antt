use Rattle.std.proofs.Common.{sym, ap, ◌∙◌, refl, arith}
use Rattle.cfi_tables.specs.Views.{admitted, idle_view}
use Rattle.cfi_tables.specs.inner.Steps.{Seated, registered}
use Rattle.cfi_tables.specs.inner.Stores.{keeping_at}
use Rattle.cfi_tables.proofs.HoldStepLemmas.{register_allowed}
use Rattle.cfi_tables.proofs.ViewLemmas.{registered_view}
use Rattle.cfi_tables.proofs.SeatLemmas.{leave_splits}
use Rattle.cfi_tables.proofs.holding.register.Goals as goal

pub store-requires : goal.store-requires
store-requires g c =
    let t = c.args.tables.now in
    let k = g.N.TableName.key in
    let r = c.requires in
    let number = c.quiet-number.ensures in (
      r.seat.table_is ∙ sym t.name,
      omega (arith, t.many, number, r.guest),
      register_allowed k _ _ _ _ _ c.args.guest _ (idle_view k (keeping_at c.args.seat.now.me)) t.key r.seat.id_is
          r.seat.me_is refl refl r.guest r.free number
          (c.from.ensures ∙ r.next),
    )

pub split_seat-seat-requires : goal.split_seat-seat-requires
split_seat-seat-requires g c =
    let t = c.args.tables.now in
    let k = g.N.TableName.key in
    let r = c.requires in
    let s = c.store.ensures in
    let u = idle_view k (keeping_at c.args.seat.now.me) in
    let view = registered_view k _ c.args.guest _ _ u r.seat.me_is c.quiet-number.ensures s.2 in (
      s.0 ∙ (r.seat.table_is ∙ sym t.name),
      omega (arith, t.many),
      leave_splits k _ _ _ (registered k c.args.guest u) (admitted k (keeping_at c.args.seat.now.me) c.args.guest) t.key
          (s.1 ∙ r.seat.id_is) (ap (λ (z : Seated). z.0) view) refl,
    )
