use Rattle.cfi_word.proofs.TableLemmas.{HasPlace-below}
use Rattle.cfi_word.proofs.laws.layout_laws.Goals as goal

pub returns-clause-all : goal.returns-clause-all
returns-clause-all c = HasPlace-below
