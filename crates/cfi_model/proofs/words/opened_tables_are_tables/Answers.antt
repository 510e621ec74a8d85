use Rattle.cfi_model.proofs.TableLemmas.{opened_are}
use Rattle.cfi_model.proofs.words.opened_tables_are_tables.Goals as goal

pub returns : goal.returns
returns c = opened_are
