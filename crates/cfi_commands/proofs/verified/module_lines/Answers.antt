use Rattle.cfi_commands.proofs.TextLemmas.{lines_grow}
use Rattle.cfi_commands.proofs.verified.module_lines.Goals as goal

-- the line of one module more
pub loop-number-preserved : goal.loop-number-preserved
loop-number-preserved c =
    lines_grow c.args.modules.now c.args.placed.now c.loop-number.number c.index-modules-number.result
    c.index-placed-number.result c.loop-number.text.items c.put_line.new.text.items c.loop-number-test.true
    c.requires c.index-modules-number.is c.index-placed-number.is c.loop-number.invariant
    c.in_ok-put_line.ensures
