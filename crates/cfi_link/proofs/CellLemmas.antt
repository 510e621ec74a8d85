-- The cells of joined modules lie within their data.
use Rattle.std.proofs.Common.{◌≡◌, ℕ, ◌+◌, ◌%◌, ◌<◌, ◌^◌, IsTrue, length, map, refl, arith}
use Rattle.cfi_aux.specs.declared.modules.Module.{Module}
use Rattle.cfi_aux.specs.declared.records.Kind.{Kind}
use Rattle.cfi_aux.specs.declared.records.Kind.TheVariants as branches
use Rattle.cfi_aux.specs.Cells.{has_cell, have_cells}
use Rattle.cfi_aux.proofs.HaveCells.{cell-parts, cell-from, cells-map, cells-append, cells-more}
use Rattle.cfi_link.specs.declared.start.Start.{Start}
use Rattle.cfi_link.specs.Joined.{Joined, with_module, start_of, branch_at, shifted}
use Rattle.cfi_link.specs.inner.Room.{HasRoom}
use Rattle.cfi_link.proofs.JoinedLemmas.{with_module-lengths}
use Rattle.cfi_link.specs.Gap.{gap}

-- a module's data begins at a multiple of four
pub start_whole : (n : ℕ) → (n + gap n) % 4 ≡ 0
start_whole n = omega arith

-- a cell goes to where its module's data begins
cell_at : (start : Start) (size : ℕ) → start.static_data % 4 ≡ 0 → start.static_data + size < 2 ^ 32 → (b : Kind)
    → IsTrue (has_cell size b) → IsTrue (has_cell (start.static_data + size) (branch_at start b))
cell_at start size whole room (branches.Call node) is = refl
cell_at start size whole room (branches.Tail node) is = refl
cell_at start size whole room branches.Return is = refl
cell_at start size whole room (branches.Switch entries) is = refl
cell_at start size whole room (branches.Import name cell) is =
    let parts = cell-parts size cell is in
    let to : shifted start.static_data cell ≡ cell + start.static_data = omega (arith, room, parts.1) in
    cell-from (start.static_data + size) (shifted start.static_data cell) (omega (arith, to, whole, parts.0))
    (omega (arith, to, parts.1))

-- with one module more
pub cells_added : (joined : Joined) (m : Module) → HasRoom joined m
    → IsTrue (have_cells (length joined.static_data) joined.branches)
    → IsTrue (have_cells (length (with_module joined m).static_data) (with_module joined m).branches)
unfolding with_module
cells_added joined m room have =
    let start = start_of joined in
    let lengths = with_module-lengths joined m in
    let size = length (with_module joined m).static_data in
    let own : ℕ = length m.object.static_data in
    let added : IsTrue (have_cells (start.static_data + own) (map (branch_at start) m.records.branches)) =
    cells-map own (start.static_data + own) (branch_at start)
    (cell_at start own (start_whole (length joined.static_data)) room.static_data) m.records.branches m.cells in
    cells-append size joined.branches (map (branch_at start) m.records.branches)
    (cells-more (length joined.static_data) size (omega (arith, lengths.static_data)) joined.branches have)
    (cells-more (start.static_data + own) size (omega (arith, lengths.static_data))
    (map (branch_at start) m.records.branches) added)
