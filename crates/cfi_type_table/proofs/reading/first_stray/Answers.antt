use Rattle.std.proofs.Common.{sym}
use Rattle.cfi_type_table.specs.Reading.{stray_from}
use Rattle.cfi_type_table.proofs.Tables.{stray_here, stray_on, stray_none}
use Rattle.cfi_type_table.proofs.reading.first_stray.Goals as goal

pub returns-then-not-names_below : goal.returns-then-not-names_below
returns-then-not-names_below c =
    stray_here c.args.count c.loop-number.number c.args.nodes.now c.index-nodes-number.result
    (stray_from c.args.count 0 c.args.nodes.now) c.loop-number-test.true c.index-nodes-number.is
    (sym c.if-not-names_below.ensures) c.loop-number.invariant

pub loop-number-preserved : goal.loop-number-preserved
loop-number-preserved c =
    stray_on c.args.count c.loop-number.number c.args.nodes.now c.index-nodes-number.result
    (stray_from c.args.count 0 c.args.nodes.now) c.loop-number-test.true c.index-nodes-number.is
    (sym c.if-not-names_below.ensures) c.loop-number.invariant

pub returns : goal.returns
returns c =
    stray_none c.args.count c.loop-number.number c.args.nodes.now (stray_from c.args.count 0 c.args.nodes.now)
    c.loop-number-test.false c.loop-number.invariant
