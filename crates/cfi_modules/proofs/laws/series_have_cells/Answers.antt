use Rattle.std.proofs.lemmas.List.Elements.{All-weaker}
use Rattle.cfi_graph.specs.Cell.{HasData}
use Rattle.cfi_graph.specs.Named.{entry_among}
use Rattle.cfi_model.specs.Data.{LiesInData}
use Rattle.cfi_aux.specs.declared.placed.Placed.{Placed}
use Rattle.cfi_modules.specs.Fills.{fill_of}
use Rattle.cfi_modules.proofs.CellLemmas.{has_data, cells_lie}
use Rattle.cfi_modules.proofs.GraphLemmas.{are_loaded}
use Rattle.cfi_modules.proofs.PrefixLemmas.{each_lies, data_lies}
use Rattle.cfi_modules.proofs.ShapedLemmas.{shaped}
use Rattle.cfi_modules.proofs.laws.series_have_cells.Goals as goal

pub returns-clause-shaped : goal.returns-clause-shaped
returns-clause-shaped c = λ code_words placed series.
    (shaped code_words placed (are_loaded code_words placed series)).shaped

pub returns-clause-data : goal.returns-clause-data
returns-clause-data c = λ code_words placed series.
    All-weaker (λ (p : Placed). LiesInData (fill_of p)) HasData has_data placed (each_lies code_words placed series)

pub returns-clause-cells : goal.returns-clause-cells
returns-clause-cells c = λ code_words live placed series.
    cells_lie (entry_among live) placed (data_lies code_words placed series)
