use Rattle.std.proofs.Common.{◌≡◌, ◌+◌, Some, sym, ap, ◌∙◌, refl, arith}
use Rattle.cfi_tables.specs.Keeping.{heard_as}
use Rattle.cfi_tables.specs.Views.{idle_view, noted, pass_of}
use Rattle.cfi_tables.specs.inner.Steps.{Seated}
use Rattle.cfi_tables.specs.inner.Stores.{keeping_at}
use Rattle.cfi_tables.specs.declared.view.KeeperView.{KeeperView}
use Rattle.cfi_tables.specs.declared.view.PassView.{PassView}
use Rattle.cfi_tables.specs.declared.view.View.TheVariants.{Pass}
use Rattle.cfi_tables.proofs.HoldStepLemmas.{tell_allowed}
use Rattle.cfi_tables.proofs.SeatLemmas.{leave_splits, return_joins, vacate_splits}
use Rattle.cfi_tables.proofs.ViewLemmas.{returned_to, told_to}
use Rattle.cfi_tables.proofs.holding.tell.Goals as goal

pub split_seat-vacant-requires : goal.split_seat-vacant-requires
split_seat-vacant-requires g c =
    let t = c.args.tables.now in
    let r = c.requires in
    (r.seat.table_is ∙ sym t.name, omega (arith, t.many), vacate_splits g.N.TableName.key _ _ _ t.key)

-- the pass gives up its seat
pub join_seat-requires : goal.join_seat-requires
join_seat-requires g c =
    let t = c.args.tables.now in
    let k = g.N.TableName.key in
    let r = c.requires in
    let v = c.split_seat-vacant.ensures in
    let place = c.replace-place.ensures.value in
    let i = c.pass.invariant in (
      v.0 ∙ (r.seat.table_is ∙ sym t.name),
      ap (λ s. s.table_id) place ∙ (i.table_is ∙ sym t.name),
      ap (λ s. s.me.1) place ∙ ap (λ (z : Seated). z.1) i.me_is,
      omega (arith, t.many),
      return_joins k _ _ _ _ _ (idle_view k (keeping_at c.args.seat.now.me)) (pass_of c.pass.inside.seat.me.0) t.key
          (v.1 ∙ r.seat.id_is) (ap (λ (z : Seated). z.0) (v.2 ∙ r.seat.me_is))
          (ap (λ s. s.me.0) place ∙ ap (λ (z : Seated). z.0) i.me_is) refl,
    )

-- the keeper holds it, and tells it all
pub load-requires : goal.load-requires
load-requires g c =
    let t = c.args.tables.now in
    let k = g.N.TableName.key in
    let r = c.requires in
    let v = c.split_seat-vacant.ensures in
    let j = c.join_seat.ensures in
    let u : KeeperView = idle_view k (keeping_at c.args.seat.now.me) in
    let p : PassView = pass_of c.pass.inside.seat.me.0 in
    let gone : c.replace-place.result.me.0 ≡ Pass p =
    ap (λ s. s.me.0) c.replace-place.ensures.value ∙ ap (λ (z : Seated). z.0) c.pass.invariant.me_is in
    let held = returned_to _ _ _ u p (◌∙◌ {A = Seated} v.2 r.seat.me_is) gone j.2 in (
      j.0 ∙ (v.0 ∙ (r.seat.table_is ∙ sym t.name)),
      omega (arith, t.many),
      tell_allowed k _ _ _ _ (record u { held = Some p }) p t.key (j.1 ∙ (v.1 ∙ r.seat.id_is)) held refl refl,
    )

-- it gets a seat again
pub split_seat-requires : goal.split_seat-requires
split_seat-requires g c =
    let t = c.args.tables.now in
    let k = g.N.TableName.key in
    let r = c.requires in
    let v = c.split_seat-vacant.ensures in
    let j = c.join_seat.ensures in
    let l = c.load.ensures in
    let u : KeeperView = idle_view k (keeping_at c.args.seat.now.me) in
    let p : PassView = pass_of c.pass.inside.seat.me.0 in
    let gone : c.replace-place.result.me.0 ≡ Pass p =
    ap (λ s. s.me.0) c.replace-place.ensures.value ∙ ap (λ (z : Seated). z.0) c.pass.invariant.me_is in
    let held = returned_to _ _ _ u p (◌∙◌ {A = Seated} v.2 r.seat.me_is) gone j.2 in
    let told = told_to _ u p held k _ l.2.is in
    let q : PassView = noted k (keeping_at c.args.seat.now.me) p in (
      l.0 ∙ (j.0 ∙ (v.0 ∙ (r.seat.table_is ∙ sym t.name))),
      omega (arith, t.many),
      leave_splits k _ _ _ (record u { quiets = heard_as p.guest (p.quiet + 1) u.quiets; held = Some q }) q t.key
          (l.1 ∙ (j.1 ∙ (v.1 ∙ r.seat.id_is)))
          (ap (λ (z : Seated). z.0) told) refl,
    )
