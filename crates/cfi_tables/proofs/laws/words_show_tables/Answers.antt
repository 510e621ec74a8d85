use Rattle.std.proofs.Common.{◌∙◌}
use Rattle.cfi_model.proofs.PhaseLemmas.{phase_words}
use Rattle.cfi_tables.specs.Views.{tables_of}
use Rattle.cfi_tables.proofs.laws.words_show_tables.Goals as goal

pub returns-clause-tables : goal.returns-clause-tables
returns-clause-tables c = λ k s kept. kept.tables

-- in each phase the words are those of the table of phases
pub returns-clause-words : goal.returns-clause-words
returns-clause-words c = λ k s kept place at has.
    kept.shows place at has ∙ phase_words (tables_of k kept.keeper) place kept.tables at
