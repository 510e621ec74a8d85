-- A module that is instrumented and placed: the one word `j .`, which stays as it is.
use Rattle.std.specs.Prelude.{[], ◌∷◌, Some, None, false, refl}
use Rattle.elf_read.specs.declared.object.Object.{Object}
use Rattle.cfi_type_table.specs.Spelling.{spelling}
use Rattle.cfi_aux.specs.Records as records
use Rattle.cfi_aux.specs.declared.modules.Module.{Module}
use Rattle.cfi_aux.specs.declared.records.Records.{Records}
use Rattle.cfi_place.specs.declared.room.Room.{Room}
use Rattle.cfi_place.specs.Names.{Names}
use Rattle.cfi_verify.specs.Example.{loop_module}
use Rattle.cfi_word.specs.declared.map.TheConstants.{FIRST_BASE, DATA_START}
use Rattle.cfi_word.specs.declared.limits.TheConstants.{MIN_CODE_WORDS}

-- its one function has the type of a function
abbrev pub loop_records : Records
loop_records = record {
  functions = record { offset = 0; length = 4; ty = 1; taken = false; name = [] } ∷ [];
  branches = [];
}

-- its object: the word, and the two sections
abbrev pub loop_object : Object
loop_object = record {
  text = 0x6f ∷ 0 ∷ 0 ∷ 0 ∷ [];
  static_data = [];
  symbols = [];
  relocs = [];
  types = Some (spelling loop_module.types);
  records = Some (records.spelling loop_records);
}

-- the module, which is its own instrumented one
abbrev pub loop_source : Module
loop_source = record { object = loop_object; types = loop_module.types; records = loop_records; cells = refl }

-- the first free place of the smallest code
abbrev pub loop_room : Room
loop_room = record { base = FIRST_BASE; slot_base = 0; data_base = DATA_START; code_words = MIN_CODE_WORDS }

-- no other module has a name
abbrev pub no_names : Names
no_names name = None
