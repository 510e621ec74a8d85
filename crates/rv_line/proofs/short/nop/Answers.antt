use Rattle.std.proofs.Common.{rules}
use Rattle.rv_line.specs.Operand.{operands_in}
use Rattle.rv_line.proofs.ShortLemmas.{nop-stands}
use Rattle.rv_line.proofs.short.nop.Goals as goal

pub returns : goal.returns
returns c = let stands = nop-stands (operands_in c.args.rest.now) in search rules
