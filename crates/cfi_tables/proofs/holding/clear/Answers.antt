use Rattle.std.proofs.Common.{Some, sym, ap, ◌∙◌, refl, arith}
use Rattle.cfi_word.specs.Table.{quiet_word}
use Rattle.cfi_tables.specs.Views.{idle_view, pass_of}
use Rattle.cfi_tables.specs.inner.Steps.{Seated}
use Rattle.cfi_tables.specs.inner.Stores.{keeping_at}
use Rattle.cfi_tables.specs.declared.view.KeeperView.{KeeperView}
use Rattle.cfi_tables.specs.declared.view.PassView.{PassView}
use Rattle.cfi_tables.proofs.HoldStepLemmas.{clear_allowed}
use Rattle.cfi_tables.proofs.SeatLemmas.{return_joins}
use Rattle.cfi_tables.proofs.ViewLemmas.{returned_to}
use Rattle.cfi_tables.proofs.holding.clear.Goals as goal

-- the pass gives up its seat
pub join_seat-requires : goal.join_seat-requires
join_seat-requires g c =
    let t = c.args.tables.now in
    let k = g.N.TableName.key in
    let r = c.requires in
    let i = c.pass.invariant in (
      r.seat.table_is ∙ sym t.name,
      i.table_is ∙ sym t.name,
      ap (λ (z : Seated). z.1) i.me_is,
      omega (arith, t.many),
      return_joins k _ _ _ _ _ (idle_view k (keeping_at c.args.seat.now.me)) (pass_of c.pass.inside.seat.me.0) t.key
          r.seat.id_is (ap (λ (z : Seated). z.0) r.seat.me_is) (ap (λ (z : Seated). z.0) i.me_is) refl,
    )

-- the keeper holds it, and clears its guest's word
pub store-requires : goal.store-requires
store-requires g c =
    let t = c.args.tables.now in
    let k = g.N.TableName.key in
    let r = c.requires in
    let i = c.pass.invariant in
    let j = c.join_seat.ensures in
    let u : KeeperView = idle_view k (keeping_at c.args.seat.now.me) in
    let p : PassView = pass_of c.pass.inside.seat.me.0 in
    let held = returned_to _ _ _ u p r.seat.me_is (ap (λ (z : Seated). z.0) i.me_is) j.2 in
    let number = c.quiet-number.ensures in (
      j.0 ∙ (r.seat.table_is ∙ sym t.name),
      omega (arith, t.many, number, i.within),
      clear_allowed k _ _ _ _ _ (record u { held = Some p }) p t.key (j.1 ∙ r.seat.id_is) held refl refl
          (number ∙ ap quiet_word i.guest_is),
    )
