use Rattle.std.proofs.Common.{◌∙◌}
use Rattle.cfi_plan.specs.declared.journal.Who.TheVariants.{Script}
use Rattle.cfi_loader.specs.Results.{told_lines}
use Rattle.cfi_loader.specs.inner.Books.{ledger_of}
use Rattle.cfi_loader.proofs.SlipLemmas.{agree_script, load_kept, load_more}
use Rattle.cfi_loader.proofs.loader.Loader.load.Goals as goal

-- no line was told by a slip
pub invariant_of-self : goal.invariant_of-self
invariant_of-self g c =
    let k = g.N.TableName.key in
    let a = c.self.inside in
    let n = c.args.number in
    let l = c.load.ensures in
    record {
      kept = load_kept k Script n a.books c.load.new.books a.keeper c.load.new.keeper c.load.result l.ok l.fault;
      plan_is = l.same.plan_is ∙ c.self.invariant.plan_is;
      modules_are = l.same.modules_are ∙ c.self.invariant.modules_are;
      slips = agree_script (told_lines n c.load.result) (ledger_of a.books a.keeper)
          (ledger_of c.load.new.books c.load.new.keeper) a.stubs
          (load_more k Script n a.books c.load.new.books a.keeper c.load.new.keeper c.load.result l.ok l.fault)
          c.self.invariant.slips;
    }
