use Rattle.std.proofs.Common.{sym, ap, ◌∙◌}
use Rattle.rv_line.specs.Operand.{no_operands}
use Rattle.rv_line.proofs.OperandLemmas.{not-none}
use Rattle.rv_line.proofs.operand.has_none.Goals as goal

pub returns-in-Some : goal.returns-in-Some
returns-in-Some c = not-none _ _ ∙ ap no_operands (sym c.in-Some.ensures)
