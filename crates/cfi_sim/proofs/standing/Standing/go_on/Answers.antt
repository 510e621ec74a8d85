use Rattle.std.proofs.Common.{◌≤◌, ◌<◌, subst, inl, inr, arith}
use Rattle.cfi_sim.specs.declared.limits.TheConstants.{MAX_EVENTS}
use Rattle.cfi_sim.specs.Events.{IsGuestEvent}
use Rattle.cfi_sim.specs.inner.Standing.{Whole}
use Rattle.cfi_sim.proofs.RepeatLemmas.{none_made, one_made, guests_stuck, goes_made, goes_none, all_made}
use Rattle.cfi_sim.proofs.standing.Standing.go_on.Goals as goal

pub loop-turn-init : goal.loop-turn-init
loop-turn-init c =
    none_made (IsGuestEvent c.args.self.now.plan c.args.guest) c.args.self.now c.requires.under_way c.requires.within

pub go-went-requires-clause-under_way : goal.go-went-requires-clause-under_way
go-went-requires-clause-under_way c = c.loop-turn.invariant.done.under_way

-- there were too many events
pub returns-then-self-ge-MAX_EVENTS : goal.returns-then-self-ge-MAX_EVENTS
returns-then-self-ge-MAX_EVENTS c =
    guests_stuck c.args.self.now c.loop-turn.self c.args.guest c.loop-turn._turn c.args.count c.requires.under_way
    c.loop-turn.invariant c.loop-turn-test.true
    (inr (subst (λ (w : Whole). MAX_EVENTS ≤ w.stage.events) c.self.view_is c.if-self-ge-MAX_EVENTS.true))

-- it has no event
pub returns-then-not-went : goal.returns-then-not-went
returns-then-not-went c =
    guests_stuck c.args.self.now c.loop-turn.self c.args.guest c.loop-turn._turn c.args.count c.requires.under_way
    c.loop-turn.invariant c.loop-turn-test.true
    (inl (goes_none c.loop-turn.self c.go-went.new.self c.args.guest c.go-went.result c.if-not-went.true
    c.go-went.ensures))

pub loop-turn-preserved : goal.loop-turn-preserved
loop-turn-preserved c =
    one_made (λ plan modules. IsGuestEvent plan c.args.guest) c.loop-turn._turn c.args.self.now c.loop-turn.self
    c.go-went.new.self c.loop-turn.invariant
    (goes_made c.loop-turn.self c.go-went.new.self c.args.guest
    (subst (λ (w : Whole). w.stage.events < MAX_EVENTS) c.self.view_is c.if-self-ge-MAX_EVENTS.false) c.go-went.result
    c.if-not-went.false c.go-went.ensures)

pub returns : goal.returns
returns c =
    all_made (IsGuestEvent c.args.self.now.plan c.args.guest) c.args.self.now c.loop-turn.self c.loop-turn._turn
    c.args.count (omega arith) (omega (arith, c.loop-turn-test.false)) c.loop-turn.invariant
