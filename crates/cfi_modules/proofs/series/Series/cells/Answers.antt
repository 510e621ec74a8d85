use Rattle.std.proofs.Common.{All, subst, sym}
use Rattle.cfi_graph.specs.Cell.{HasData}
use Rattle.cfi_graph.specs.Shaped.{IsShaped}
use Rattle.cfi_modules.specs.Series.{live_in}
use Rattle.cfi_modules.proofs.LiveLemmas.{all_among, live_among}
use Rattle.cfi_modules.proofs.series.Series.cells.Goals as goal

-- the laws, at the modules that are there
pub cells-requires-clause-shaped : goal.cells-requires-clause-shaped
cells-requires-clause-shaped c =
    let series = c.args.self.now in
    subst (All IsShaped) (sym c.live_ones.ensures.value)
    (all_among IsShaped series.placed (live_in series) (live_among series.placed series.flags)
    (c.series_have_cells.ensures.shaped series.code_words series.placed c.modules.ensures.series))

pub cells-requires-clause-data : goal.cells-requires-clause-data
cells-requires-clause-data c =
    subst (All HasData) (sym c.modules.ensures.value)
    (c.series_have_cells.ensures.data c.args.self.now.code_words c.args.self.now.placed c.modules.ensures.series)
