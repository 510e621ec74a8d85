use Rattle.std.proofs.Common.{◌≡◌, ◌∙◌, flat_map, take, ap, arith}
use Rattle.std.proofs.lemmas.List.{take_all}
use Rattle.cfi_graph.specs.Cell.{cells_in}
use Rattle.cfi_graph.specs.Named.{entry_among}
use Rattle.cfi_graph.specs.inner.Imports.{imports_in}
use Rattle.cfi_graph.proofs.CellLemmas.{cells_same}
use Rattle.cfi_graph.proofs.cell.cells.Goals as goal

-- the names of all imports were looked for
pub returns : goal.returns
returns c =
    let ms = c.args.modules.now in
    let found = cells_in (imports_in c.in_ok-imports.imports) in
    let all : take c.loop-placed.placed-index ms ≡ ms = take_all c.loop-placed.placed-index ms (omega arith) in
    c.loop-placed.invariant ∙ ap (flat_map found) all
    ∙ cells_same (imports_in c.in_ok-imports.imports) (entry_among c.args.live.now) ms
    (λ m has name cell there. c.in_ok-imports.ensures name (c.in_ok-names.ensures m has name cell there))
