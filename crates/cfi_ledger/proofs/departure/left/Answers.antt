use Rattle.std.proofs.Common.{All, subst, sym, ◌∙◌}
use Rattle.cfi_graph.specs.Cell.{HasData}
use Rattle.cfi_graph.specs.Shaped.{IsShaped}
use Rattle.cfi_modules.specs.Series.{live_in, with_retired}
use Rattle.cfi_modules.proofs.LiveLemmas.{all_among, live_among}
use Rattle.cfi_ledger.proofs.departure.left.Goals as goal

-- the laws, at the modules that are there
pub cells-requires-clause-shaped : goal.cells-requires-clause-shaped
cells-requires-clause-shaped c =
    let series = c.args.series.now in
    let rest = with_retired series c.args.place in
    subst (All IsShaped) (sym (c.deref.ensures.value ∙ c.in_ok-others.ensures))
    (all_among IsShaped series.placed (live_in rest) (live_among series.placed rest.flags)
    (c.series_have_cells.ensures.shaped series.code_words series.placed c.modules.ensures.series))

pub cells-requires-clause-data : goal.cells-requires-clause-data
cells-requires-clause-data c =
    subst (All HasData) (sym c.modules.ensures.value)
    (c.series_have_cells.ensures.data c.args.series.now.code_words c.args.series.now.placed c.modules.ensures.series)
