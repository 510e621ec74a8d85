use Rattle.rv_insn.proofs.IsWordLemmas.{IsWord-insn_of}
use Rattle.rv_insn.proofs.laws.meaning_is_exact.Goals as goal

pub returns : goal.returns
returns c = IsWord-insn_of
