use Rattle.cfi_aux.specs.Fault.{zeroes_at}
use Rattle.cfi_aux.proofs.Zeroes.{zeroes_go_on, zeroes_short, zeroes_bad, zeroes_done}
use Rattle.cfi_aux.proofs.name.after_zeroes.Goals as goal

pub returns-in_default : goal.returns-in_default
returns-in_default c =
    zeroes_short c.args.number c.args.count c.loop.counter c.loop.rest.now
    (zeroes_at c.args.number c.args.count c.args.bytes.now) c.loop-test.true c.in_default.ensures.cases c.loop.invariant

pub returns-then-byte-ne0 : goal.returns-then-byte-ne0
returns-then-byte-ne0 c =
    zeroes_bad c.args.number c.args.count c.loop.counter c.loop.rest.now c.in-Some.byte.now c.in-Some.after.now
    (zeroes_at c.args.number c.args.count c.args.bytes.now) c.loop-test.true c.in-Some.ensures.cases.0
    c.if-byte-ne0.true c.loop.invariant

pub loop-preserved : goal.loop-preserved
loop-preserved c =
    zeroes_go_on c.args.number c.args.count c.loop.counter c.loop.rest.now c.in-Some.byte.now c.in-Some.after.now
    (zeroes_at c.args.number c.args.count c.args.bytes.now) c.loop-test.true c.in-Some.ensures.cases.0
    c.if-byte-ne0.false c.loop.invariant

pub returns : goal.returns
returns c =
    zeroes_done c.args.number c.args.count c.loop.counter c.loop.rest.now
    (zeroes_at c.args.number c.args.count c.args.bytes.now) c.loop-test.false c.loop.invariant
