use Rattle.std.proofs.Common.{subst}
use Rattle.cfi_graph.specs.Reading.{HaveGraph}
use Rattle.cfi_policy.specs.Image.{HaveImage}
use Rattle.cfi_modules.specs.Loaded.{AreLoaded, HaveClosedImages}
use Rattle.cfi_modules.specs.Series.{Series}
use Rattle.cfi_modules.proofs.series.Series.modules.Goals as goal

-- the laws, at the modules that are there
pub returns-clause-graph : goal.returns-clause-graph
returns-clause-graph c =
    subst (λ (s : Series). HaveGraph s.placed) c.self.view_is
    (c.series_have_graph.ensures c.self.inside.code_words c.self.inside.placed.items c.self.invariant.series)

pub returns-clause-loaded : goal.returns-clause-loaded
returns-clause-loaded c =
    subst (λ (s : Series). AreLoaded s.code_words s.placed) c.self.view_is
    (c.series_are_loaded.ensures c.self.inside.code_words c.self.inside.placed.items c.self.invariant.series)

pub returns-clause-image : goal.returns-clause-image
returns-clause-image c =
    let placed = c.self.inside.placed.items in
    let loaded = c.series_are_loaded.ensures c.self.inside.code_words placed c.self.invariant.series in
    let graph = c.series_have_graph.ensures c.self.inside.code_words placed c.self.invariant.series in
    subst (λ (s : Series). HaveImage s.placed s.code_words) c.self.view_is
    (c.loaded_have_image.ensures c.self.inside.code_words placed loaded graph)

pub returns-clause-closed : goal.returns-clause-closed
returns-clause-closed c =
    let placed = c.self.inside.placed.items in
    let loaded = c.series_are_loaded.ensures c.self.inside.code_words placed c.self.invariant.series in
    subst (λ (s : Series). HaveClosedImages s.code_words s.placed) c.self.view_is
    (c.loaded_have_closed_images.ensures c.self.inside.code_words placed loaded)
