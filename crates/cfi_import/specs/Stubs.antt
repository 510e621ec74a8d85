-- What stubs add. A stub has three instructions, which jump to the address that its cell holds:
--     lui x5,%hi(cell)
--     lw x5,%lo(cell)(x5)
--     jalr x0,0(x5)
use Rattle.std.specs.Prelude.{ℕ, zero, suc, ◌+◌, ◌*◌, pos, false, nat_lt, if◌then◌else◌, List, [], ◌∷◌, ◌++◌, map, Option, Some, None, option_map}
use Rattle.std.specs.List.{flat_map}
use Rattle.rv_insn.specs.declared.insn.Insn.{Insn}
use Rattle.rv_insn.specs.declared.insn.Insn.TheVariants.{Lui, Load, Jalr}
use Rattle.rv_insn.specs.declared.insn.LoadKind.TheVariants.{Lw}
use Rattle.rv_insn.specs.Insn.{word_of}
use Rattle.elf_read.specs.declared.object.Symbol.{Symbol}
use Rattle.elf_read.specs.declared.object.Reloc.{Reloc}
use Rattle.elf_read.specs.declared.object.Area.TheVariants as areas
use Rattle.elf_read.specs.declared.object.Binding.TheVariants as bindings
use Rattle.elf_read.specs.declared.object.Place.{Place}
use Rattle.elf_read.specs.declared.object.Place.TheVariants as places
use Rattle.elf_read.specs.declared.relocation.TheConstants.{HI20, LO12_I}
use Rattle.cfi_type_table.specs.declared.kind.TheConstants.{VOID, FUNC}
use Rattle.cfi_type_table.specs.Node.{Node, make_node}
use Rattle.cfi_type_table.specs.Spelling.{word}
use Rattle.cfi_aux.specs.declared.records.Function.{Function}
use Rattle.cfi_aux.specs.declared.records.Kind.{Kind}
use Rattle.cfi_aux.specs.declared.records.Kind.TheVariants.{Import}
use Rattle.cfi_import.specs.declared.start.Start.{Start}
use Rattle.cfi_import.specs.declared.start.TheConstants.{STUB_BYTES, STUB_SYMBOLS}
use Rattle.cfi_import.specs.Imports.{leads}
use Rattle.cfi_import.specs.Start.{stub_offset, cell_offset, stub_symbol, cell_symbol}

-- ---- a stub

-- its instructions
abbrev pub stub_insns : List Insn
stub_insns = Lui 5 0 ∷ Load Lw 5 5 (pos 0) ∷ Jalr 0 5 (pos 0) ∷ []

-- their bytes
unfoldable pub stub_bytes : List ℕ
stub_bytes = flat_map word (map word_of stub_insns)

-- the type of a function without parameters and result, and the type that it gives, which are the last nodes
abbrev pub stub_type : Start → ℕ
stub_type start = start.types + 1

-- the two nodes of their type: void, and the function that has no parameters
abbrev pub stub_nodes : Start → List Node
stub_nodes start = make_node VOID [] ∷ make_node FUNC (start.types ∷ []) ∷ []

-- the record of the stub of this place, which has the import's name
abbrev pub stub_function : Start → ℕ × List ℕ → Function
stub_function start (place, name) = record {
  offset = stub_offset start place;
  length = STUB_BYTES;
  ty = stub_type start;
  taken = false;
  name = name;
}

-- what its jump is
abbrev pub stub_kind : Start → ℕ × List ℕ → Kind
stub_kind start (place, name) = Import name (cell_offset start place)

-- a local symbol without a name
abbrev pub unnamed : Place → (value : ℕ) → Symbol
unnamed place value = record { name = []; binding = bindings.Local; place = place; value = value }

-- the symbols of the stub of this place and of its cell
abbrev pub stub_symbols : Start → (place : ℕ) → List Symbol
stub_symbols start place =
    unnamed places.Text (stub_offset start place) ∷ unnamed places.Data (cell_offset start place) ∷ []

-- a relocation to its cell
abbrev pub cell_reloc : Start → (place offset kind : ℕ) → Reloc
cell_reloc start place offset kind = record {
  area = areas.Text;
  offset = offset;
  kind = kind;
  symbol = Some (cell_symbol start place);
  addend = pos 0;
}

-- those of its first two instructions
abbrev pub stub_relocs : Start → (place : ℕ) → List Reloc
stub_relocs start place =
    cell_reloc start place (stub_offset start place) HI20
    ∷ cell_reloc start place (stub_offset start place + 4) LO12_I ∷ []

-- ---- what stands

-- the number of a symbol, once those of the stubs stand before the first one that is not local
abbrev pub shifted : Start → (number : ℕ) → ℕ
shifted start number = if nat_lt number start.symbols then number else number + STUB_SYMBOLS * start.count

-- the number that a relocation names in place of the number of an import, whose place is there, or of another symbol
abbrev pub led : Start → (place : Option ℕ) → (number : ℕ) → ℕ
led start None number = shifted start number
led start (Some place) number = stub_symbol start place

-- calls and jumps to an import lead to its stub; `find` says the place of the import that has a number
abbrev pub new_number : Start → (find : ℕ → Option ℕ) → (kind number : ℕ) → ℕ
new_number start find kind number = if leads kind then led start (find number) number else shifted start number

-- a relocation
abbrev pub moved : Start → (find : ℕ → Option ℕ) → Reloc → Reloc
moved start find reloc = record reloc { symbol = option_map (new_number start find reloc.kind) reloc.symbol }
