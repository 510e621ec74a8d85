use Rattle.rv_insn.proofs.InsnOfLemmas.{insn_of-IsWord}
use Rattle.rv_insn.proofs.laws.one_meaning.Goals as goal

pub returns : goal.returns
returns c = insn_of-IsWord
