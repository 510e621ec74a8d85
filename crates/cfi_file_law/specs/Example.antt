-- A module with a masked access, a call under a relocation and a check: before it is instrumented, after, and at its
-- place. Its source is the one function `f`, which reads a word, calls itself and returns:
--     f: lw x1,0(x2)
--        jal x1,f
--        jalr x0,0(x1)
use Rattle.std.specs.Prelude.{ℕ, ℤ, pos, negsuc, false, true, List, [], ◌∷◌, Some, refl}
use Rattle.std.specs.List.{flat_map}
use Rattle.rv_insn.specs.declared.insn.LoadKind.TheVariants.{Lw}
use Rattle.elf_read.specs.declared.object.Area.TheVariants as areas
use Rattle.elf_read.specs.declared.object.Binding.TheVariants as bindings
use Rattle.elf_read.specs.declared.object.Place.TheVariants as places
use Rattle.elf_read.specs.declared.object.Object.{Object}
use Rattle.elf_read.specs.declared.object.Reloc.{Reloc}
use Rattle.elf_read.specs.declared.object.Symbol.{Symbol}
use Rattle.elf_read.specs.declared.relocation.TheConstants.{JAL}
use Rattle.cfi_word.specs.declared.map.TheConstants.{FIRST_BASE, DATA_START}
use Rattle.cfi_unit.specs.declared.unit.Unit.{Unit as CodeUnit}
use Rattle.cfi_unit.specs.declared.unit.Unit.TheVariants.{Load, Jump, Check}
use Rattle.cfi_unit.specs.Unit.{words_of}
use Rattle.cfi_type_table.specs.Node.{Node}
use Rattle.cfi_type_table.specs.Spelling as types
use Rattle.cfi_aux.specs.Records as records
use Rattle.cfi_aux.specs.declared.modules.Module.{Module}
use Rattle.cfi_aux.specs.declared.records.Kind.TheVariants.{Return}
use Rattle.cfi_aux.specs.declared.records.Records.{Records}
use Rattle.cfi_aux.specs.declared.placed.Placed.{Placed}
use Rattle.cfi_verify.specs.Example.{loop_module}

-- the name `f`, and the table of types, of which number 1 is that of a function
abbrev pub call_name : List ℕ
call_name = 0x66 ∷ []

-- the types of the call's module: those of the loop's
abbrev pub call_types : List Node
call_types = loop_module.types

-- the function has so many bytes, and its one indirect jump is a return
abbrev pub call_records : (bytes : ℕ) → Records
call_records bytes = record {
  functions = record { offset = 0; length = bytes; ty = 1; taken = false; name = call_name } ∷ [];
  branches = Return ∷ [];
}

-- the call is at the offset, under a relocation that names the function
abbrev pub call_reloc : (offset : ℕ) → Reloc
call_reloc offset = record { area = areas.Text; offset = offset; kind = JAL; symbol = Some 0; addend = pos 0 }

-- its one symbol, a local one at the start of the text
abbrev pub call_symbol : Symbol
call_symbol = record { name = call_name; binding = bindings.Local; place = places.Text; value = 0 }

-- its object, over this text, with the call's relocation at this place and so many bytes of code
abbrev pub call_object : (text : List ℕ) → (call bytes : ℕ) → Object
call_object text call bytes = record {
  text = text;
  static_data = [];
  symbols = call_symbol ∷ [];
  relocs = call_reloc call ∷ [];
  types = Some (types.spelling call_types);
  records = Some (records.spelling (call_records bytes));
}

-- its module over such an object
abbrev pub call_module : (text : List ℕ) → (call bytes : ℕ) → Module
call_module text call bytes = record {
  object = call_object text call bytes;
  types = call_types;
  records = call_records bytes;
  cells = refl;
}

-- the source: its three words, low bytes first
abbrev pub call_source : Module
call_source =
    call_module
    (0x83 ∷ 0x20 ∷ 0x01 ∷ 0x00 ∷ 0xef ∷ 0x00 ∷ 0x00 ∷ 0x00 ∷ 0x67 ∷ 0x80 ∷ 0x00 ∷ 0x00 ∷ [])
    4 12

-- the units of its words, where the call leads so far and the check names a slot: six words, one, and fourteen
abbrev pub call_units : (off : ℤ) → (slot : ℕ) → List CodeUnit
call_units off slot = Load Lw 1 2 (pos 0) ∷ Jump true off ∷ Check false 1 (pos 0) slot ∷ []

-- its words, where the call leads so far
abbrev pub call_words : (off : ℤ) → List ℕ
call_words off = flat_map words_of (call_units off 0)

-- the instrumented module, whose call the relocation has not led yet
abbrev pub call_made : Module
call_made = call_module (flat_map types.word (call_words (pos 0))) 24 84

-- and that one at the first free place, where the call leads 24 bytes back
abbrev pub call_placed : Placed
call_placed = record {
  base = FIRST_BASE;
  slot_base = 0;
  data_base = DATA_START;
  words = call_words (negsuc 23);
  static_data = [];
  functions = record { first = 0; count = 21; ty = 1; taken = false; global = false; name = call_name } ∷ [];
  branches = Return ∷ [];
  types = call_types;
  exports = [];
  cells = refl;
}
