use Rattle.cfi_modules.proofs.GraphLemmas.{have_graph}
use Rattle.cfi_modules.proofs.laws.series_have_graph.Goals as goal

pub returns : goal.returns
returns c = λ code_words placed series.
    let loaded = c.series_are_loaded.ensures code_words placed series in
    have_graph code_words placed series
    (c.shaped_are_apart.ensures placed (c.loaded_are_shaped.ensures code_words placed loaded))
