use Rattle.std.proofs.Common.{sym, subst}
use Rattle.cfi_loader.specs.inner.Books.{BooksAgree}
use Rattle.cfi_loader.proofs.AdmitLemmas.{in_kept}
use Rattle.cfi_loader.proofs.SlipLemmas.{agree_taken}
use Rattle.cfi_loader.proofs.loader.Loader.release.Goals as goal

-- the slip came back with the pass
pub invariant_of-self : goal.invariant_of-self
invariant_of-self g c =
    let k = g.N.TableName.key in
    let a = c.self.inside in
    record {
      kept = subst (BooksAgree k a.books) (sym c.release.ensures.out)
          (in_kept k a.books a.keeper c.args.pass.guest c.self.invariant.kept);
      plan_is = c.self.invariant.plan_is;
      modules_are = c.self.invariant.modules_are;
      slips = agree_taken a.books a.keeper c.release.new.self c.args.pass.guest a.stubs c.take.new.self
          c.self.invariant.slips c.args.slip.guest c.requires c.release.ensures.out c.take.ensures.out;
    }
