-- That instrumented module linked with itself: each call is led back to its own function, since no other module can
-- name it, and the checks name the slots 0 and 1.
use Rattle.std.specs.Prelude.{ℕ, negsuc, false, List, [], ◌∷◌, ◌++◌, Some, refl}
use Rattle.std.specs.List.{flat_map}
use Rattle.elf_read.specs.declared.object.Object.{Object}
use Rattle.elf_write.specs.File.{bytes_of}
use Rattle.cfi_unit.specs.declared.unit.Unit.{Unit as CodeUnit}
use Rattle.cfi_unit.specs.Unit.{words_of}
use Rattle.cfi_type_table.specs.Node.{Node, make_node}
use Rattle.cfi_type_table.specs.Spelling as types
use Rattle.cfi_type_table.specs.declared.kind.TheConstants.{VOID, FUNC}
use Rattle.cfi_aux.specs.Records as records
use Rattle.cfi_aux.specs.declared.modules.Module.{Module}
use Rattle.cfi_aux.specs.declared.records.Function.{Function}
use Rattle.cfi_aux.specs.declared.records.Kind.TheVariants.{Return}
use Rattle.cfi_aux.specs.declared.records.Records.{Records}
use Rattle.cfi_file_law.specs.Example.{call_name, call_symbol, call_units, call_made}

-- the modules that are linked, and their files
abbrev pub linked_inputs : List Module
linked_inputs = call_made ∷ call_made ∷ []

-- the object's bytes, twice
abbrev pub linked_files : List (List ℕ)
linked_files = bytes_of call_made.object ∷ bytes_of call_made.object ∷ []

-- the types of the one and those of the other, whose numbers go up by two
abbrev pub linked_types : List Node
linked_types = make_node VOID [] ∷ make_node FUNC (0 ∷ []) ∷ make_node VOID [] ∷ make_node FUNC (2 ∷ []) ∷ []

-- a function of 84 bytes
abbrev pub linked_function : (offset ty : ℕ) → Function
linked_function offset ty = record { offset = offset; length = 84; ty = ty; taken = false; name = call_name }

-- the two functions, one behind the other, and their two returns
abbrev pub linked_records : Records
linked_records = record {
  functions = linked_function 0 1 ∷ linked_function 84 3 ∷ [];
  branches = Return ∷ Return ∷ [];
}

-- each call leads 24 bytes back
abbrev pub linked_units : (slot other : ℕ) → List CodeUnit
linked_units slot other = call_units (negsuc 23) slot ++ call_units (negsuc 23) other

-- the words of both, whose checks name these slots
abbrev pub linked_words : (slot other : ℕ) → List ℕ
linked_words slot other = flat_map words_of (linked_units slot other)

-- the object that linking makes
abbrev pub linked_object : Object
linked_object = record {
  text = flat_map types.word (linked_words 0 1);
  static_data = [];
  symbols = call_symbol ∷ record call_symbol { value = 84 } ∷ [];
  relocs = [];
  types = Some (types.spelling linked_types);
  records = Some (records.spelling linked_records);
}

-- and its module
abbrev pub linked_output : Module
linked_output = record { object = linked_object; types = linked_types; records = linked_records; cells = refl }
