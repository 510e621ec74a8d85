-- Two modules of the one word `j .` that need nothing of each other, and the module that is linked of them.
use Rattle.std.specs.Prelude.{ℕ, ◌+◌, List, [], ◌∷◌, Some, false, refl}
use Rattle.elf_read.specs.declared.object.Object.{Object}
use Rattle.cfi_type_table.specs.Node.{Node, make_node}
use Rattle.cfi_type_table.specs.Spelling.{spelling}
use Rattle.cfi_type_table.specs.declared.kind.TheConstants.{VOID, FUNC}
use Rattle.cfi_aux.specs.Records as records
use Rattle.cfi_aux.specs.declared.modules.Module.{Module}
use Rattle.cfi_aux.specs.declared.records.Function.{Function}
use Rattle.cfi_aux.specs.declared.records.Records.{Records}
use Rattle.cfi_aux.specs.declared.placed.Placed.{Placed}
use Rattle.cfi_aux.specs.declared.placed.PlacedFunction.{PlacedFunction}
use Rattle.cfi_verify.specs.Example.{loop_module}
use Rattle.cfi_word.specs.declared.map.TheConstants.{FIRST_BASE, DATA_START}

-- a function of one word at this place in bytes, of the type of this number
abbrev pub loop_at : (offset ty : ℕ) → Function
loop_at offset ty = record { offset = offset; length = 4; ty = ty; taken = false; name = [] }

-- an object of these bytes without symbols, with its two sections
abbrev pub bare_object : (text : List ℕ) → List Node → Records → Object
bare_object text types parts = record {
  text = text;
  static_data = [];
  symbols = [];
  relocs = [];
  types = Some (spelling types);
  records = Some (records.spelling parts);
}

-- one module: a word, and a function of it
abbrev pub loop_records : Records
loop_records = record { functions = loop_at 0 1 ∷ []; branches = [] }

-- the module of one such word
abbrev pub loop_source : Module
loop_source = record {
  object = bare_object (0x6f ∷ 0 ∷ 0 ∷ 0 ∷ []) loop_module.types loop_records;
  types = loop_module.types;
  records = loop_records;
  cells = refl;
}

-- two of them, linked
abbrev pub two_types : List Node
two_types = make_node VOID [] ∷ make_node FUNC (0 ∷ []) ∷ make_node VOID [] ∷ make_node FUNC (2 ∷ []) ∷ []

-- the functions of both
abbrev pub two_records : Records
two_records = record { functions = loop_at 0 1 ∷ loop_at 4 3 ∷ []; branches = [] }

-- the module that linking makes of two
abbrev pub two_linked : Module
two_linked = record {
  object = bare_object (0x6f ∷ 0 ∷ 0 ∷ 0 ∷ 0x6f ∷ 0 ∷ 0 ∷ 0 ∷ []) two_types two_records;
  types = two_types;
  records = two_records;
  cells = refl;
}

-- the second of them placed behind the first, and both as they are linked
abbrev pub second_module : Placed
second_module = record loop_module { base = FIRST_BASE + 1 }

-- a function of one word at its place
abbrev pub placed_at : (first ty : ℕ) → PlacedFunction
placed_at first ty = record { first = first; count = 1; ty = ty; taken = false; global = false; name = [] }

-- the linked module at the first place
abbrev pub two_module : Placed
two_module = record {
  base = FIRST_BASE;
  slot_base = 0;
  data_base = DATA_START;
  words = 0x6f ∷ 0x6f ∷ [];
  static_data = [];
  functions = placed_at 0 1 ∷ placed_at 1 3 ∷ [];
  branches = [];
  types = two_types;
  exports = [];
  cells = refl;
}
