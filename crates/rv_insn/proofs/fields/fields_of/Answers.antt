use Rattle.std.proofs.Common.{refl}
use Rattle.rv_insn.specs.InsnOf.{insn_of}
use Rattle.rv_insn.proofs.fields.fields_of.Goals as goal

pub returns-clause-insn : goal.returns-clause-insn
unfolding insn_of
returns-clause-insn c = refl
