use Rattle.std.proofs.Common.{sym, subst}
use Rattle.cfi_sim.specs.Events.{IsReleaseEvent}
use Rattle.cfi_sim.specs.inner.Standing.{Whole, HasDone, IsUnderWay, whole_inside}
use Rattle.cfi_sim.proofs.GoLemmas.{with_world, one_event}
use Rattle.cfi_sim.proofs.ReleaseLemmas.{released}
use Rattle.cfi_sim.proofs.standing.Standing.release.Goals as goal

-- the event has happened
pub returns : goal.returns
returns c =
    let x = whole_inside c.self.inside in
    let under : IsUnderWay x = subst IsUnderWay (sym c.self.view_is) c.requires.under_way in
    subst
    (λ (y : Whole). HasDone (IsReleaseEvent c.args.guest) y (one_event (with_world c.turn.new.self x)))
    c.self.view_is (released x under c.args.guest c.turn.new.self c.turn.result c.turn.ensures c.in-Did.is)
