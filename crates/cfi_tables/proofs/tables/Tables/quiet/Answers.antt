use Rattle.std.proofs.Common.{◌≡◌, inr, ◌+◌, [], sym, ap, subst, ◌∙◌, refl, arith}
use Rattle.cfi_word.specs.Table.{Epoch, quiet_word}
use Rattle.cfi_tables.specs.Loads.{IsLoad}
use Rattle.cfi_tables.specs.Views.{pass_of}
use Rattle.cfi_tables.specs.inner.Steps.{Seated}
use Rattle.cfi_tables.specs.declared.view.View.TheVariants.{Pass}
use Rattle.cfi_tables.proofs.PassLemmas.{epoch_bare, load_allowed, publish_allowed, quiet_is}
use Rattle.cfi_tables.proofs.ViewLemmas.{published_to}
use Rattle.cfi_tables.proofs.tables.Tables.quiet.Goals as goal

pub load-found-requires : goal.load-found-requires
load-found-requires g c =
    let t = c.args.self.now in
    let i = c.pass.invariant in (
      i.table_is ∙ sym t.name,
      omega (arith, t.many),
      load_allowed g.N.TableName.key _ _ _ _ _ t.key i.me_is Epoch tt tt (inr refl) refl,
    )

-- the guest keeps no Bary word, and publishes the epoch that it has found
pub store-requires : goal.store-requires
store-requires g c =
    let t = c.args.self.now in
    let k = g.N.TableName.key in
    let i = c.pass.invariant in
    let l = c.load-found.ensures in
    let load = l.2.load Epoch tt tt refl in
    let me : Seated = c.load-found.new.seat.me in
    let me_is : me ≡ (Pass (pass_of me.0), []) =
    l.2.same ∙ ap (λ (z : Seated). (Pass (pass_of me.0), z.1)) i.me_is in
    let number = c.quiet-number.ensures in (
      l.0 ∙ (i.table_is ∙ sym t.name),
      omega (arith, t.many, number, i.within),
      publish_allowed k _ _ _ _ _ _ t.key me_is (number ∙ ap quiet_word (i.guest_is ∙ sym load.guest))
          (epoch_bare k _ _ _ load)
          (ap (λ n. n + 1) (c.from.ensures ∙ (c.epoch_of-epoch.ensures.field ∙ sym load.tells.1))),
    )

pub invariant_of-pass : goal.invariant_of-pass
invariant_of-pass g c =
    let k = g.N.TableName.key in
    let i = c.pass.invariant in
    let l = c.load-found.ensures in
    let load = l.2.load Epoch tt tt refl in
    let me : Seated = c.load-found.new.seat.me in
    let me_is : me ≡ (Pass (pass_of me.0), []) =
    l.2.same ∙ ap (λ (z : Seated). (Pass (pass_of me.0), z.1)) i.me_is in
    let s = c.store.ensures in
    let after = published_to me _ (pass_of me.0) me_is s.2.is in
    let view = ap (λ (z : Seated). pass_of z.0) after in
    record {
      table_is = s.0 ∙ (l.0 ∙ i.table_is);
      me_is = after ∙ ap (λ p. (Pass p, [])) (sym view);
      guest_is = i.guest_is ∙ (sym load.guest ∙ ap (λ p. p.guest) (sym view));
      within = i.within;
    }

pub returns : goal.returns
returns g c =
    let k = g.N.TableName.key in
    let i = c.pass.invariant in
    let l = c.load-found.ensures in
    let load = l.2.load Epoch tt tt refl in
    let me : Seated = c.load-found.new.seat.me in
    let me_is : me ≡ (Pass (pass_of me.0), []) =
    l.2.same ∙ ap (λ (z : Seated). (Pass (pass_of me.0), z.1)) i.me_is in
    let after = published_to me _ (pass_of me.0) me_is c.store.ensures.2.is in
    let view = ap (λ (z : Seated). pass_of z.0) after in
    let found = c.epoch_of-epoch.ensures.field in
    let old : pass_of c.pass.inside.seat.me.0 ≡ c.args.pass.now = c.pass.view_is in
    quiet_is k _ _ _ _ found (subst (λ p. IsLoad k Epoch c.load-found.result p (pass_of me.0)) old load)
    c.store.ensures.2.later _ view
