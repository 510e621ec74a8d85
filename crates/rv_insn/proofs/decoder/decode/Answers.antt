use Rattle.std.proofs.Common.{◌∙◌, arith}
use Rattle.rv_insn.proofs.InsnOfLemmas.{insn_of-IsWord}
use Rattle.rv_insn.proofs.IsWordLemmas.{IfSome-row_of}
use Rattle.rv_insn.proofs.decoder.decode.Goals as goal

pub returns-clause-some : goal.returns-clause-some
returns-clause-some c = IfSome-row_of c.args.word c.row_of.result (omega (arith, c.ranges.word)) c.row_of.ensures

pub returns-clause-only : goal.returns-clause-only
returns-clause-only c = λ insn is_word. c.row_of.ensures ∙ insn_of-IsWord insn c.args.word is_word
