use Rattle.std.proofs.Common.{◌≡◌, ◌++◌, take}
use Rattle.std.specs.List.{filter_map}
use Rattle.cfi_graph.specs.Cell.{cell_by}
use Rattle.cfi_graph.specs.inner.Imports.{imports_in}
use Rattle.cfi_graph.proofs.cell.add_cells.Given as goal

abbrev pub invariant-loop-kind : goal.invariant-loop-kind
invariant-loop-kind l =
    l.cells.items ≡ l.initial.cells.items
    ++ filter_map (cell_by (imports_in l.imports) l.placed) (take l.kind-index l.placed.branches)
