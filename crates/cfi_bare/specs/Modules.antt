-- The module that a bare file is. Its bytes are the words of one function named `bare`, which is not global; it has no
-- data, no symbols and no relocations.
use Rattle.std.specs.Prelude.{ℕ, List, [], ◌∷◌, length, codes, None, false, refl}
use Rattle.elf_read.specs.declared.object.Object.{Object}
use Rattle.cfi_type_table.specs.Node.{Node, make_node}
use Rattle.cfi_type_table.specs.declared.kind.TheConstants.{VOID, FUNC}
use Rattle.cfi_aux.specs.declared.records.Function.{Function}
use Rattle.cfi_aux.specs.declared.modules.Module.{Module}
use Rattle.cfi_bare.specs.declared.modules.TheConstants.{FUNCTION_TYPE}

-- its types: Void, and a function of no parameters that gives Void
abbrev pub bare_types : List Node
bare_types = make_node VOID [] ∷ make_node FUNC (0 ∷ []) ∷ []

-- its function, of so many bytes, and none where there are none
abbrev pub bare_function : (size : ℕ) → Function
bare_function size = record { offset = 0; length = size; ty = FUNCTION_TYPE; taken = false; name = codes "bare" }

-- one function over all bytes; none where there are none
abbrev pub bare_functions : (bytes : List ℕ) → List Function
bare_functions [] = []
bare_functions (byte ∷ bytes) = bare_function (length (byte ∷ bytes)) ∷ []

-- the object of the bytes as text, with nothing else
abbrev pub bare_object : (bytes : List ℕ) → Object
bare_object bytes = record { text = bytes; static_data = []; symbols = []; relocs = []; types = None; records = None }

-- the module of these bytes, in which no check has a record
abbrev pub bare_module : (bytes : List ℕ) → Module
bare_module bytes = record {
  object = bare_object bytes;
  types = bare_types;
  records = record { functions = bare_functions bytes; branches = [] };
  cells = refl;
}
