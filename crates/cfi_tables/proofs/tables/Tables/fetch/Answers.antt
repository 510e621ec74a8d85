use Rattle.std.proofs.Common.{sym, ap, subst, ◌∙◌, arith}
use Rattle.cfi_tables.specs.Loads.{IsFetch}
use Rattle.cfi_tables.specs.Views.{pass_of}
use Rattle.cfi_tables.specs.inner.Steps.{Seated}
use Rattle.cfi_tables.specs.declared.view.PassView.{PassView}
use Rattle.cfi_tables.specs.declared.view.View.TheVariants.{Pass}
use Rattle.cfi_tables.proofs.CodeLemmas.{fetch_allowed}
use Rattle.cfi_tables.proofs.tables.Tables.fetch.Goals as goal

pub load-found-requires : goal.load-found-requires
load-found-requires g c =
    let t = c.args.self.now in
    let i = c.pass.invariant in
    let number = c.code-number.ensures in (
      i.table_is ∙ sym t.name,
      omega (arith, t.many, number, c.requires.word),
      fetch_allowed g.N.TableName.key _ _ _ _ _ t.key i.me_is c.args.word c.requires.word number,
    )

pub invariant_of-pass : goal.invariant_of-pass
invariant_of-pass g c =
    let i = c.pass.invariant in
    let l = c.load-found.ensures in
    let fetch = l.2.fetch c.args.word c.requires.word (sym c.code-number.ensures) in
    record {
      table_is = l.0 ∙ i.table_is;
      me_is = l.2.same ∙ ap (λ (z : Seated). (Pass (pass_of c.load-found.new.seat.me.0), z.1)) i.me_is;
      guest_is = i.guest_is ∙ sym (ap (λ (p : PassView). p.guest) fetch.is);
      within = i.within;
    }

-- the word has 32 bits
pub returns : goal.returns
returns g c =
    let k = g.N.TableName.key in
    let l = c.load-found.ensures in
    let fetch = l.2.fetch c.args.word c.requires.word (sym c.code-number.ensures) in
    subst (λ p. IsFetch k c.args.word c.load-found.result p (pass_of c.load-found.new.seat.me.0)) c.pass.view_is fetch
