use Rattle.std.proofs.Common.{◌≤◌, subst, inl, inr, arith}
use Rattle.cfi_sim.specs.declared.limits.TheConstants.{MAX_EVENTS}
use Rattle.cfi_sim.specs.inner.Standing.{Whole}
use Rattle.cfi_sim.proofs.RepeatLemmas.{guests_stuck}
use Rattle.cfi_sim.proofs.TraceLemmas.{none_told, one_told, events_made, by_told, by_none, all_told}
use Rattle.cfi_sim.proofs.standing.Standing.tell_events.Goals as goal

pub loop-turn-init : goal.loop-turn-init
loop-turn-init c =
    none_told c.args.self.now c.args.guest c.args.out.now.items c.requires.under_way c.requires.within

-- there were too many events
pub returns-then-self-ge-MAX_EVENTS : goal.returns-then-self-ge-MAX_EVENTS
returns-then-self-ge-MAX_EVENTS c =
    guests_stuck c.args.self.now c.loop-turn.self c.args.guest c.loop-turn._turn c.args.count c.requires.under_way
    (events_made c.args.self.now c.loop-turn.self c.args.guest c.loop-turn._turn c.args.out.now.items
    c.loop-turn.out.items c.loop-turn.invariant) c.loop-turn-test.true
    (inr (subst (λ (w : Whole). MAX_EVENTS ≤ w.stage.events) c.self.view_is c.if-self-ge-MAX_EVENTS.true))

-- it has no event
pub returns-then-not-told : goal.returns-then-not-told
returns-then-not-told c =
    guests_stuck c.args.self.now c.loop-turn.self c.args.guest c.loop-turn._turn c.args.count c.requires.under_way
    (events_made c.args.self.now c.loop-turn.self c.args.guest c.loop-turn._turn c.args.out.now.items
    c.loop-turn.out.items c.loop-turn.invariant) c.loop-turn-test.true
    (inl (by_none c.loop-turn.self c.tell_event.new.self c.args.guest c.loop-turn.out.items
    c.tell_event.new.out.items c.in_ok-told.told c.if-not-told.true c.in_ok-told.ensures))

pub loop-turn-preserved : goal.loop-turn-preserved
loop-turn-preserved c =
    one_told c.args.self.now c.loop-turn.self c.tell_event.new.self c.args.guest c.loop-turn._turn
    c.args.out.now.items c.loop-turn.out.items c.tell_event.new.out.items c.loop-turn.invariant
    (by_told c.loop-turn.self c.tell_event.new.self c.args.guest c.loop-turn.out.items c.tell_event.new.out.items
    c.in_ok-told.told c.if-not-told.false c.in_ok-told.ensures)

pub returns : goal.returns
returns c =
    all_told c.args.self.now c.loop-turn.self c.args.guest c.loop-turn._turn c.args.count c.args.out.now.items
    c.loop-turn.out.items (omega arith) (omega (arith, c.loop-turn-test.false)) c.loop-turn.invariant
