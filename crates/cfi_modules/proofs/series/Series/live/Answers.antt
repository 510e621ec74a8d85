use Rattle.cfi_modules.proofs.LiveLemmas.{live_among}
use Rattle.cfi_modules.proofs.series.Series.live.Goals as goal

pub returns-clause-among : goal.returns-clause-among
returns-clause-among c = live_among c.args.self.now.placed c.args.self.now.flags

-- the law, at the modules that are there
pub returns-clause-image : goal.returns-clause-image
returns-clause-image c =
    let series = c.args.self.now in
    let its = c.live_ones.ensures.series in
    c.live_have_images.ensures series.code_words series.placed series.flags
    (c.series_are_loaded.ensures series.code_words series.placed its)
    (c.series_have_graph.ensures series.code_words series.placed its)
