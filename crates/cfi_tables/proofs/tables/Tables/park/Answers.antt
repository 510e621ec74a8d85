use Rattle.std.proofs.Common.{[], sym, ap, ◌∙◌, refl, arith}
use Rattle.cfi_word.specs.Table.{quiet_word}
use Rattle.cfi_tables.specs.Views.{parked, pass_of}
use Rattle.cfi_tables.specs.inner.Steps.{Seated}
use Rattle.cfi_tables.specs.declared.view.View.TheVariants.{Pass}
use Rattle.cfi_tables.proofs.PassLemmas.{park_allowed}
use Rattle.cfi_tables.proofs.ViewLemmas.{parked_to}
use Rattle.cfi_tables.proofs.tables.Tables.park.Goals as goal

pub store-requires : goal.store-requires
store-requires g c =
    let t = c.args.self.now in
    let i = c.pass.invariant in
    let number = c.quiet-number.ensures in (
      i.table_is ∙ sym t.name,
      omega (arith, t.many, number, i.within),
      park_allowed g.N.TableName.key _ _ _ _ _ _ t.key i.me_is (number ∙ ap quiet_word i.guest_is) refl,
    )

pub invariant_of-pass : goal.invariant_of-pass
invariant_of-pass g c =
    let i = c.pass.invariant in
    let s = c.store.ensures in
    let after = parked_to _ _ (pass_of c.pass.inside.seat.me.0) i.me_is s.2 in
    let view = ap (λ (z : Seated). pass_of z.0) after in
    record {
      table_is = s.0 ∙ i.table_is;
      me_is = after ∙ ap (λ p. (Pass p, [])) (sym view);
      guest_is = i.guest_is ∙ ap (λ p. p.guest) (sym view);
      within = i.within;
    }

pub returns : goal.returns
returns g c =
    let i = c.pass.invariant in
    let after = parked_to _ _ (pass_of c.pass.inside.seat.me.0) i.me_is c.store.ensures.2 in
    ap (λ (z : Seated). pass_of z.0) after ∙ ap parked c.pass.view_is
