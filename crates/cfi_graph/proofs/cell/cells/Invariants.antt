use Rattle.std.proofs.Common.{◌≡◌, flat_map, take}
use Rattle.cfi_graph.specs.Cell.{cells_in}
use Rattle.cfi_graph.specs.inner.Imports.{imports_in}
use Rattle.cfi_graph.proofs.cell.cells.Given as goal

abbrev pub invariant-loop-placed : goal.invariant-loop-placed
invariant-loop-placed l =
    l.cells.items ≡ flat_map (cells_in (imports_in l.imports)) (take l.placed-index l.modules)
