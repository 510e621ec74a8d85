-- Where the cells of imports lie: each is a whole word of its module's data.
use Rattle.std.specs.Prelude.{ℕ, Bool, true, List}
use Rattle.std.specs.List.{list_all}
use Rattle.cfi_aux.specs.declared.records.Kind.{Kind}
use Rattle.cfi_aux.specs.declared.records.Kind.TheVariants.{Call, Tail, Return, Switch, Import}
use Rattle.cfi_aux.specs.Format.{is_cell}

-- the branch's cell is one, where it has one
abbrev pub has_cell : (size : ℕ) → Kind → Bool
has_cell size (Import name cell) = is_cell size cell
has_cell size (Call node) = true
has_cell size (Tail node) = true
has_cell size Return = true
has_cell size (Switch places) = true

-- so are those of all branches
abbrev pub have_cells : (size : ℕ) → List Kind → Bool
have_cells size branches = list_all (has_cell size) branches
