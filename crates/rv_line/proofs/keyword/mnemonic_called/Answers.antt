use Rattle.std.proofs.Common.{◌∙◌, refl}
use Rattle.rv_line.specs.Keyword.{mnemonic_text}
use Rattle.rv_line.proofs.TableLemmas.{called-rows}
use Rattle.rv_line.proofs.keyword.mnemonic_called.Goals as goal

pub returns : goal.returns
returns c = c.found_in.ensures ∙ called-rows mnemonic_text _ c.args.word.now refl
