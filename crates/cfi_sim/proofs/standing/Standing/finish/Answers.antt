use Rattle.std.proofs.Common.{◌≡◌, true, false, sym, ap, subst, ◌∙◌}
use Rattle.cfi_model.specs.Phases.{phase_of}
use Rattle.cfi_sim.specs.inner.Standing.{Whole}
use Rattle.cfi_sim.proofs.RepeatLemmas.{none_advanced, more_advanced, fewer_left, more_stuck, finished}
use Rattle.cfi_world.specs.Updates.{is_idle}
use Rattle.cfi_sim.proofs.standing.Standing.finish.Goals as goal

pub loop-self-init : goal.loop-self-init
loop-self-init c = none_advanced c.args.self.now c.requires.under_way c.requires.within

-- there were too many events
pub returns-then-not-made : goal.returns-then-not-made
returns-then-not-made c =
    more_stuck c.args.self.now c.loop-self.self c.advance.new.self c.loop-self.invariant
    (subst (λ (w : Whole). is_idle (phase_of w.stage.world.tables) ≡ false) c.self.view_is
    (ap is_idle (sym c.phase.ensures) ∙ sym c.is_idle.ensures ∙ c.loop-self-test.true)) c.in_ok-made.made
    c.if-not-made.true c.in_ok-made.ensures

pub loop-self-smaller : goal.loop-self-smaller
loop-self-smaller c =
    fewer_left c.loop-self.self c.advance.new.self c.in_ok-made.made c.if-not-made.false
    c.in_ok-made.ensures

pub loop-self-preserved : goal.loop-self-preserved
loop-self-preserved c =
    more_advanced c.args.self.now c.loop-self.self c.advance.new.self c.loop-self.invariant
    c.in_ok-made.made
    c.if-not-made.false c.in_ok-made.ensures

-- no update is under way
pub returns : goal.returns
returns c =
    finished c.args.self.now c.loop-self.self c.loop-self.invariant
    (subst (λ (w : Whole). is_idle (phase_of w.stage.world.tables) ≡ true) c.self.view_is
    (ap is_idle (sym c.phase.ensures) ∙ sym c.is_idle.ensures ∙ c.loop-self-test.false))
