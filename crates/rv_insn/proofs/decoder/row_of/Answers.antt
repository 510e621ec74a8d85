use Rattle.std.proofs.Common.{rules, tests}
use Rattle.rv_insn.specs.InsnOf.{insn_of}
use Rattle.rv_insn.proofs.decoder.row_of.Goals as goal

pub returns-in_default : goal.returns-in_default
unfolding insn_of
returns-in_default c = search (tests, rules)
