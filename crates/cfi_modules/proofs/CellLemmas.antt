-- The cells of a series' modules lie inside private data, as the data does that they are words of.
use Rattle.std.proofs.Common.{IsTrue, List, [], ◌∷◌, flat_map, length, All, arith}
use Rattle.std.specs.List.{filter_map, cons_option}
use Rattle.std.proofs.lemmas.Bool.{and_parts}
use Rattle.std.proofs.lemmas.List.Elements.{All-nil, All-cons, All-head, All-tail, All-append}
use Rattle.cfi_unit.specs.declared.fill.Fill.{Fill}
use Rattle.cfi_aux.specs.declared.placed.Placed.{Placed}
use Rattle.cfi_aux.specs.declared.records.Kind.{Kind}
use Rattle.cfi_aux.specs.declared.records.Kind.TheVariants.{Call, Tail, Return, Switch, Import}
use Rattle.cfi_aux.specs.Cells.{has_cell, have_cells}
use Rattle.cfi_aux.proofs.HaveCells.{cell-parts}
use Rattle.cfi_graph.specs.Cell.{cell_by, cells_in, HasData}
use Rattle.cfi_graph.specs.Facts.{ByName}
use Rattle.cfi_model.specs.Data.{LiesInData}
use Rattle.cfi_modules.specs.Fills.{fill_of, fills_of}

-- such data ends within 32 bits
pub has_data : (m : Placed) → LiesInData (fill_of m) → HasData m
has_data m lies = omega (arith, lies.first, lies.last)

module _ (imports : ByName) where
  -- the cell of a branch, behind which others are
  one_lies : (m : Placed) → LiesInData (fill_of m) → (b : Kind) → IsTrue (has_cell (length m.static_data) b)
      → (rest : List Fill) → All LiesInData rest → All LiesInData (cons_option (cell_by imports m b) rest)
  one_lies m lies (Import name cell) has rest all =
      let within = (cell-parts (length m.static_data) cell has).1 in
      All-cons LiesInData _ rest
      (record { first = omega (arith, lies.first); last = omega (arith, lies.first, lies.last, within) }) all
  one_lies m lies (Call node) has rest all = all
  one_lies m lies (Tail node) has rest all = all
  one_lies m lies Return has rest all = all
  one_lies m lies (Switch entries) has rest all = all

  in_lie : (m : Placed) → LiesInData (fill_of m) → (bs : List Kind) → IsTrue (have_cells (length m.static_data) bs)
      → All LiesInData (filter_map (cell_by imports m) bs)
  in_lie m lies [] have = All-nil LiesInData
  in_lie m lies (b ∷ bs) have =
      let both = and_parts (has_cell (length m.static_data) b) (have_cells (length m.static_data) bs) have in
      one_lies m lies b both.0 (filter_map (cell_by imports m) bs) (in_lie m lies bs both.1)

  -- the cells of modules whose data lies there
  pub cells_lie : (ms : List Placed) → All LiesInData (fills_of ms) → All LiesInData (flat_map (cells_in imports) ms)
  cells_lie [] all = All-nil LiesInData
  cells_lie (m ∷ ms) all =
      All-append LiesInData (cells_in imports m) (flat_map (cells_in imports) ms)
      (in_lie m (All-head LiesInData (fill_of m) (fills_of ms) all) m.branches m.cells)
      (cells_lie ms (All-tail LiesInData (fill_of m) (fills_of ms) all))
