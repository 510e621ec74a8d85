-- Modules written by hand: of units and functions, without data, names and exports.
use Rattle.std.specs.Prelude.{ℕ, Bool, false, List, [], ◌∷◌, map, IsTrue}
use Rattle.std.specs.List.{flat_map}
use Rattle.cfi_unit.specs.declared.unit.Unit.{Unit as CodeUnit}
use Rattle.cfi_unit.specs.Unit.{words_of}
use Rattle.cfi_type_table.specs.Node.{Node, make_node}
use Rattle.cfi_aux.specs.declared.placed.Placed.{Placed}
use Rattle.cfi_aux.specs.declared.placed.PlacedFunction.{PlacedFunction}
use Rattle.cfi_aux.specs.declared.records.Kind.{Kind}
use Rattle.cfi_aux.specs.Cells.{have_cells}

-- a function without a name, by its first word, how many it has, the node of its type, and whether it is taken
abbrev pub function_of : (ℕ × ℕ × ℕ × Bool) → PlacedFunction
function_of row = record {
  first = row.0;
  count = row.1;
  ty = row.2;
  taken = row.3;
  global = false;
  name = [];
}

-- a module of these units, without data, cells and exports
abbrev pub placed_of : (base slot_base : ℕ) → List CodeUnit → List (ℕ × ℕ × ℕ × Bool) → (branches : List Kind)
    → IsTrue (have_cells 0 branches) → List Node → Placed
placed_of base slot_base code rows branches cells types = record {
  base = base;
  slot_base = slot_base;
  data_base = 0;
  words = flat_map words_of code;
  static_data = [];
  functions = map function_of rows;
  branches = branches;
  types = types;
  exports = [];
  cells = cells;
}

-- Void and a function that gives it
abbrev pub void_and_function : List Node
void_and_function = make_node 0 [] ∷ make_node 7 (0 ∷ []) ∷ []
