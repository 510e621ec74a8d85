-- A module that verifies: the one word `j .`, one function of it, whose type is that of a function.
use Rattle.std.specs.Prelude.{[], ◌∷◌, false, refl}
use Rattle.cfi_type_table.specs.Node.{make_node}
use Rattle.cfi_type_table.specs.declared.kind.TheConstants.{VOID, FUNC}
use Rattle.cfi_aux.specs.declared.placed.Placed.{Placed}
use Rattle.cfi_aux.specs.declared.placed.PlacedFunction.{PlacedFunction}
use Rattle.cfi_word.specs.declared.map.TheConstants.{FIRST_BASE, DATA_START}

-- its one function
abbrev pub loop_function : PlacedFunction
loop_function = record { first = 0; count = 1; ty = 1; taken = false; global = false; name = [] }

-- the module
abbrev pub loop_module : Placed
loop_module = record {
  base = FIRST_BASE;
  slot_base = 0;
  data_base = DATA_START;
  words = 0x6f ∷ [];
  static_data = [];
  functions = loop_function ∷ [];
  branches = [];
  types = make_node VOID [] ∷ make_node FUNC (0 ∷ []) ∷ [];
  exports = [];
  cells = refl;
}
