use Rattle.std.proofs.Common.{sym, ap, ◌∙◌}
use Rattle.rv_line.specs.Operand.{one}
use Rattle.rv_line.proofs.OperandLemmas.{not-one}
use Rattle.rv_line.proofs.operand.one_of.Goals as goal

pub returns-in-Some : goal.returns-in-Some
returns-in-Some g c = not-one g.A.Operand.read _ _ ∙ ap (one g.A.Operand.read) (sym c.in-Some.ensures)
