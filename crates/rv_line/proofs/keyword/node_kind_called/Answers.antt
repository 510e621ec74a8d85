use Rattle.std.proofs.Common.{◌∙◌, refl}
use Rattle.rv_line.specs.Keyword.{node_kind_text}
use Rattle.rv_line.proofs.TableLemmas.{called-rows}
use Rattle.rv_line.proofs.keyword.node_kind_called.Goals as goal

pub returns : goal.returns
returns c = c.found_in.ensures ∙ called-rows node_kind_text _ c.args.word.now refl
