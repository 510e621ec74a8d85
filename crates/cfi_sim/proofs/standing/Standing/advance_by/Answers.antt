use Rattle.std.proofs.Common.{arith}
use Rattle.cfi_sim.specs.Events.{IsUpdateEvent}
use Rattle.cfi_sim.proofs.RepeatLemmas.{none_made, one_made, updates_stuck, advance_made, advance_none, all_made}
use Rattle.cfi_sim.proofs.standing.Standing.advance_by.Goals as goal

pub loop-access-init : goal.loop-access-init
loop-access-init c =
    none_made (IsUpdateEvent c.args.self.now.plan c.args.self.now.modules) c.args.self.now c.requires.under_way
    c.requires.within

pub advance-requires : goal.advance-requires
advance-requires c = record { under_way = c.loop-access.invariant.done.under_way }

-- no update is under way, or there were too many events
pub returns-then-not-made : goal.returns-then-not-made
returns-then-not-made c =
    updates_stuck c.args.self.now c.loop-access.self c.loop-access._access c.loop-access.invariant c.args.count
    c.loop-access-test.true
    (advance_none c.loop-access.self c.advance.new.self c.in_ok-made.made c.if-not-made.true c.in_ok-made.ensures)

pub loop-access-preserved : goal.loop-access-preserved
loop-access-preserved c =
    one_made (λ plan modules. IsUpdateEvent plan modules) c.loop-access._access c.args.self.now c.loop-access.self
    c.advance.new.self c.loop-access.invariant
    (advance_made c.loop-access.self c.advance.new.self c.in_ok-made.made c.if-not-made.false c.in_ok-made.ensures)

pub returns : goal.returns
returns c =
    all_made (IsUpdateEvent c.args.self.now.plan c.args.self.now.modules) c.args.self.now c.loop-access.self
    c.loop-access._access c.args.count (omega arith) (omega (arith, c.loop-access-test.false)) c.loop-access.invariant
