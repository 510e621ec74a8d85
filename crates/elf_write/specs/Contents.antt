-- What the sections of a written file hold (System V ELF, "Symbol Table" and "String Table"; RISC-V ELF psABI,
-- "Relocations").
use Rattle.std.specs.Prelude.{ℕ, ◌+◌, ◌*◌, ◌==◌, Bool, true, false, if◌then◌else◌, List, [], ◌∷◌, ◌++◌, length, take, replicate, filter, get_or, Option, Some, None}
use Rattle.std.specs.List.{flat_map}
use Rattle.std.specs.Int.{w32, cast_unsigned}
use Rattle.elf_read.specs.Places.{joined}
use Rattle.elf_read.specs.declared.symbol.TheConstants.{SYMBOL_SIZE, LOCAL, GLOBAL, WEAK, UNDEFINED, ABSOLUTE}
use Rattle.elf_read.specs.declared.object.Symbol.{Symbol}
use Rattle.elf_read.specs.declared.object.Reloc.{Reloc}
use Rattle.elf_read.specs.declared.object.Binding.{Binding}
use Rattle.elf_read.specs.declared.object.Binding.TheVariants as bindings
use Rattle.elf_read.specs.declared.object.Place.{Place}
use Rattle.elf_read.specs.declared.object.Place.TheVariants as places
use Rattle.elf_read.specs.declared.object.Area.{Area}
use Rattle.elf_read.specs.declared.object.Area.TheVariants as areas
use Rattle.elf_write.specs.Words.{words, halves}

-- a name in a table of names: its bytes and a zero byte; the empty name takes none
abbrev pub zero_ended : List ℕ → List ℕ
zero_ended name = if length name == 0 then [] else name ++ 0 ∷ []

-- the table of the names of these symbols: a zero byte, and the names in the order of the symbols
unfoldable pub name_table : List Symbol → List ℕ
name_table symbols = 0 ∷ flat_map (λ symbol. zero_ended symbol.name) symbols

-- the number of a binding
abbrev pub binding_number : Binding → ℕ
binding_number bindings.Local = LOCAL
binding_number bindings.Global = GLOBAL
binding_number bindings.Weak = WEAK

-- the number of the section that a place is
abbrev pub section_number : Place → ℕ
section_number places.Undefined = UNDEFINED
section_number places.Absolute = ABSOLUTE
section_number places.Text = 1
section_number places.Data = 2

-- the entry of a symbol whose name begins at a place: name, value, size, binding and type, other, section
unfoldable pub symbol_entry : (place : ℕ) → Symbol → List ℕ
symbol_entry place symbol =
    words (place ∷ symbol.value ∷ 0 ∷ []) ++ ((16 * binding_number symbol.binding) ∷ 0 ∷ [])
    ++ halves (section_number symbol.place ∷ [])

-- no symbol: what stands for one past the last
abbrev pub no_symbol : Symbol
no_symbol = record { name = []; binding = bindings.Local; place = places.Undefined; value = 0 }

-- where the name of symbol k begins, which is after the names of those before it; the empty name is at 0
unfoldable pub symbol_name_place : List Symbol → (k : ℕ) → ℕ
symbol_name_place symbols k =
    if length (get_or symbols k no_symbol).name == 0 then 0 else length (name_table (take k symbols))

-- the entry of symbol k of an object
abbrev pub entry_of : List Symbol → (k : ℕ) → List ℕ
entry_of symbols k = symbol_entry (symbol_name_place symbols k) (get_or symbols k no_symbol)

-- the entry of symbol 0, which is none
unfoldable pub null_entry : List ℕ
null_entry = replicate SYMBOL_SIZE 0

-- the table of symbols: that entry, and the symbols in their order
unfoldable pub symbol_table : List Symbol → List ℕ
symbol_table symbols = null_entry ++ joined (entry_of symbols) (length symbols)

-- its object alone sees it
abbrev pub is_local_symbol : Symbol → Bool
is_local_symbol symbol = binding_number symbol.binding == LOCAL

-- the number of a relocation's symbol in the table
abbrev pub symbol_number : Option ℕ → ℕ
symbol_number None = 0
symbol_number (Some k) = k + 1

-- its info: that number, and its kind
abbrev pub info_of : Reloc → ℕ
info_of reloc = 256 * symbol_number reloc.symbol + reloc.kind

-- its entry: offset, info, addend
unfoldable pub rela_entry : Reloc → List ℕ
rela_entry reloc = words (reloc.offset ∷ info_of reloc ∷ cast_unsigned w32 reloc.addend ∷ [])

-- the two areas
abbrev pub is_text_area : Area → Bool
is_text_area areas.Text = true
is_text_area areas.Data = false

-- the area is that of data
abbrev pub is_data_area : Area → Bool
is_data_area areas.Text = false
is_data_area areas.Data = true

-- it is of this area
abbrev pub is_in : Area → Reloc → Bool
is_in areas.Text reloc = is_text_area reloc.area
is_in areas.Data reloc = is_data_area reloc.area

-- the relocations of an area, in their order
unfoldable pub relas_of : Area → List Reloc → List ℕ
relas_of area relocs = flat_map rela_entry (filter (is_in area) relocs)
