use Rattle.std.proofs.Common.{◌∙◌, All, sym, subst}
use Rattle.std.proofs.lemmas.List.Elements.{All-take}
use Rattle.cfi_graph.specs.Cell.{HasData}
use Rattle.cfi_ledger.specs.Force.{count_by_policy}
use Rattle.cfi_labels.proofs.LoadedLemmas.{places_first}
use Rattle.cfi_labels.proofs.cells.cells_by.Goals as goal

pub cells-requires-clause-data : goal.cells-requires-clause-data
cells-requires-clause-data c =
    let r = c.args.roster.now in
    let is = c.loaded_modules-loaded.ensures.is ∙ places_first r c.requires.lined c.requires.order c.args.policy in
    subst (All HasData) (sym is)
    (All-take HasData (count_by_policy c.args.policy r) r.placed
    (c.series_have_cells.ensures.data r.code_words r.placed c.loaded_modules-loaded.ensures.series))
