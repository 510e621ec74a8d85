use Rattle.cfi_loader.proofs.AdmitLemmas.{heard_kept}
use Rattle.cfi_loader.proofs.loader.Loader.note.Goals as goal

pub invariant_of-self : goal.invariant_of-self
invariant_of-self g c =
    heard_kept g.N.TableName.key g.N.LoaderName.plan g.N.LoaderName.modules c.self.inside.books c.self.inside.keeper
    c.note.new.self c.args.pass.now.guest c.args.pass.now.quiet c.self.inside.stubs c.self.invariant c.note.ensures.kept
