use Rattle.std.proofs.Common.{ap, ◌∙◌}
use Rattle.cfi_guest_run.specs.Runner.{Ran}
use Rattle.cfi_guest_run.proofs.AnsweredLemmas.{slip_run}
use Rattle.cfi_guest_run.proofs.TurnLemmas.{turn_asks, turn_outside, turn_runs}
use Rattle.cfi_guest_run.proofs.runner.Runner.turn.Goals as goal

-- a guest that runs is not parked
pub run_until-requires-clause-outside : goal.run_until-requires-clause-outside
run_until-requires-clause-outside g c =
    turn_outside g.N.TableName.key g.N.LoaderName.plan g.N.LoaderName.modules c.args.fuel c.self.inside.pass
    c.self.inside.pass c.self.inside.guest c.self.inside.guest c.requires.fuel c.self.invariant.is
    (ap (λ (v : Ran). v.guest.base.stop) c.self.view_is ∙ c.requires.going)
    (ap (λ (v : Ran). v.guest.waits) c.self.view_is ∙ c.requires.idle)

-- a service was asked for
pub serve-requires-clause-runner : goal.serve-requires-clause-runner
serve-requires-clause-runner g c κs within =
    turn_runs g.N.TableName.key g.N.LoaderName.plan g.N.LoaderName.modules c.args.fuel c.self.inside.pass
    c.run_until.new.pass c.self.inside.guest c.run_until.new.guest c.requires.fuel c.self.invariant.is
    (ap (λ (v : Ran). v.guest.base.stop) c.self.view_is ∙ c.requires.going)
    (ap (λ (v : Ran). v.guest.waits) c.self.view_is ∙ c.requires.idle) c.run_until.result c.run_until.ensures

pub serve-requires-clause-asked : goal.serve-requires-clause-asked
serve-requires-clause-asked g c κs within =
    turn_asks g.N.TableName.key g.N.LoaderName.plan g.N.LoaderName.modules c.args.fuel c.self.inside.pass
    c.run_until.new.pass c.self.inside.guest c.run_until.new.guest c.requires.fuel c.self.invariant.is
    (ap (λ (v : Ran). v.guest.base.stop) c.self.view_is ∙ c.requires.going)
    (ap (λ (v : Ran). v.guest.waits) c.self.view_is ∙ c.requires.idle) c.in-Service.number c.in-Service.ensures

pub serve-requires-clause-slip : goal.serve-requires-clause-slip
serve-requires-clause-slip g c κs within =
    slip_run g.N.TableName.key c.args.fuel c.self.inside.pass c.run_until.new.pass c.self.inside.guest
    c.run_until.new.guest c.run_until.result c.self.inside.slip c.run_until.ensures c.self.invariant.slip

-- or the guest has stopped
pub invariant_of-self-in_default : goal.invariant_of-self-in_default
invariant_of-self-in_default g c = record {
  is = turn_runs g.N.TableName.key g.N.LoaderName.plan g.N.LoaderName.modules c.args.fuel c.self.inside.pass
      c.run_until.new.pass c.self.inside.guest c.run_until.new.guest c.requires.fuel c.self.invariant.is
      (ap (λ (v : Ran). v.guest.base.stop) c.self.view_is ∙ c.requires.going)
      (ap (λ (v : Ran). v.guest.waits) c.self.view_is ∙ c.requires.idle) c.run_until.result c.run_until.ensures;
  slip = slip_run g.N.TableName.key c.args.fuel c.self.inside.pass c.run_until.new.pass c.self.inside.guest
      c.run_until.new.guest c.run_until.result c.self.inside.slip c.run_until.ensures c.self.invariant.slip;
}
