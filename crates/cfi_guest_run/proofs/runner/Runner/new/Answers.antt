use Rattle.cfi_guest_run.proofs.OpeningLemmas.{opening_runs, opening_slip}
use Rattle.cfi_guest_run.proofs.runner.Runner.new.Goals as goal

pub invariant_of-result : goal.invariant_of-result
invariant_of-result g c =
    record {
      is = opening_runs g.N.TableName.key g.N.LoaderName.plan g.N.LoaderName.modules c.args.pass c.args.guest
          c.requires.opening;
      slip = opening_slip g.N.TableName.key g.N.LoaderName.plan g.N.LoaderName.modules c.args.pass c.args.guest
          c.requires.opening c.args.slip c.requires.slip;
    }
