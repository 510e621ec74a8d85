-- Cells within data: what each says, and the cells of lists of branches.
use Rattle.std.proofs.Common.{◌≡◌, ℕ, ◌+◌, ◌%◌, ◌≤◌, eqb, leb, IsTrue, List, [], ◌∷◌, ◌++◌, map, refl, arith}
use Rattle.std.proofs.lemmas.Bool.{eqb-true, eq-eqb, leb-true, le-leb, and_parts, and_from}
use Rattle.cfi_aux.specs.declared.records.Kind.{Kind}
use Rattle.cfi_aux.specs.declared.records.Kind.TheVariants.{Call, Tail, Return, Switch, Import}
use Rattle.cfi_aux.specs.Format.{is_cell}
use Rattle.cfi_aux.specs.Cells.{has_cell, have_cells}

-- ---- one

pub cell-parts : (size cell : ℕ) → IsTrue (is_cell size cell) → (cell % 4 ≡ 0) × (cell + 4 ≤ size)
cell-parts size cell is =
    let both = and_parts (eqb (cell % 4) 0) (leb (cell + 4) size) is in
    (eqb-true (cell % 4) 0 both.0, leb-true (cell + 4) size both.1)

pub cell-from : (size cell : ℕ) → cell % 4 ≡ 0 → cell + 4 ≤ size → IsTrue (is_cell size cell)
cell-from size cell whole within =
    and_from (eqb (cell % 4) 0) (leb (cell + 4) size) (eq-eqb (cell % 4) 0 whole) (le-leb (cell + 4) size within)

-- a cell of some data is one of more data
cell-more : (size more : ℕ) → size ≤ more → (b : Kind) → IsTrue (has_cell size b) → IsTrue (has_cell more b)
cell-more size more le (Import name cell) is =
    let parts = cell-parts size cell is in cell-from more cell parts.0 (omega (arith, le, parts.1))
cell-more size more le (Call node) is = refl
cell-more size more le (Tail node) is = refl
cell-more size more le Return is = refl
cell-more size more le (Switch places) is = refl

-- ---- those of lists

-- branches made of others that have cells
pub cells-map : (size next : ℕ) (f : Kind → Kind)
    → ((b : Kind) → IsTrue (has_cell size b) → IsTrue (has_cell next (f b))) → (bs : List Kind)
    → IsTrue (have_cells size bs) → IsTrue (have_cells next (map f bs))
cells-map size next f each [] have = refl
cells-map size next f each (b ∷ bs) have =
    let both = and_parts (has_cell size b) (have_cells size bs) have in
    and_from (has_cell next (f b)) (have_cells next (map f bs)) (each b both.0) (cells-map size next f each bs both.1)

pub cells-append : (size : ℕ) (bs more : List Kind) → IsTrue (have_cells size bs) → IsTrue (have_cells size more)
    → IsTrue (have_cells size (bs ++ more))
cells-append size [] more have others = others
cells-append size (b ∷ bs) more have others =
    let both = and_parts (has_cell size b) (have_cells size bs) have in
    and_from (has_cell size b) (have_cells size (bs ++ more)) both.0 (cells-append size bs more both.1 others)

pub cells-more : (size more : ℕ) → size ≤ more → (bs : List Kind) → IsTrue (have_cells size bs)
    → IsTrue (have_cells more bs)
cells-more size more le [] have = refl
cells-more size more le (b ∷ bs) have =
    let both = and_parts (has_cell size b) (have_cells size bs) have in
    and_from (has_cell more b) (have_cells more bs) (cell-more size more le b both.0) (cells-more size more le bs both.1)

-- no branches have cells, whatever the data
pub no-cells : (size : ℕ) → IsTrue (have_cells size [])
no-cells size = refl
