use Rattle.std.proofs.Common.{refl}
use Rattle.cfi_sim.proofs.FollowLemmas.{none_follows, line_stuck, line_made}
use Rattle.cfi_sim.proofs.simulation.follow_line.Goals as goal

-- the line is none
pub returns-in_default-clause-fault : goal.returns-in_default-clause-fault
returns-in_default-clause-fault c = (
  refl,
  none_follows c.args.standing.now c.args.text.now c.read.result c.read.ensures.some c.read.ensures.only
      c.in_default.is,
)

-- it makes nothing
pub returns-then-not-made-clause-fault : goal.returns-then-not-made-clause-fault
returns-then-not-made-clause-fault c = (
  refl,
  line_stuck c.args.standing.now c.args.text.now c.read.result c.read.ensures.some c.read.ensures.only c.in-Some.line
      c.in-Some.is c.make_line.new.self c.in_ok-made.made c.if-not-made.true c.in_ok-made.ensures,
)

pub returns-clause-ok : goal.returns-clause-ok
returns-clause-ok c =
    line_made c.args.standing.now c.args.text.now c.read.result c.read.ensures.some c.read.ensures.only c.in-Some.line
    c.in-Some.is c.make_line.new.self c.in_ok-made.made c.if-not-made.false c.in_ok-made.ensures
