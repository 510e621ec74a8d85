use Rattle.std.proofs.Common.{rules}
use Rattle.rv_line.specs.Operand.{operands_in}
use Rattle.rv_line.proofs.ShortLemmas.{j-stands}
use Rattle.rv_line.proofs.short.j.Goals as goal

pub returns-in-Some : goal.returns-in-Some
returns-in-Some c = let stands = j-stands (operands_in c.args.rest.now) in search rules
