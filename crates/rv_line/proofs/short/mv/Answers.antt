use Rattle.std.proofs.Common.{rules}
use Rattle.rv_line.specs.Operand.{operands_in}
use Rattle.rv_line.proofs.ShortLemmas.{mv-stands}
use Rattle.rv_line.proofs.short.mv.Goals as goal

pub returns-in-Some : goal.returns-in-Some
returns-in-Some c = let stands = mv-stands (operands_in c.args.rest.now) in search rules

pub returns-in-None : goal.returns-in-None
returns-in-None c = let stands = mv-stands (operands_in c.args.rest.now) in search rules
