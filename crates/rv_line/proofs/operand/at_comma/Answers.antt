use Rattle.rv_line.proofs.OperandLemmas.{operands-found}
use Rattle.rv_line.proofs.operand.at_comma.Goals as goal

pub returns : goal.returns
returns c = operands-found c.args.text.now c.cut_at.result c.cut_at.ensures
