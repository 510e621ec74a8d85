-- Where stubs go: their text at the end of the text, their cells at the end of the data, which is padded to whole
-- words, their type at the end of the types, and their symbols before the first symbol that is not local.
use Rattle.std.specs.Prelude.{ℕ, ◌+◌, ◌*◌, Bool, true, false, not, length, List, [], ◌∷◌, if◌then◌else◌}
use Rattle.std.specs.List.{list_any}
use Rattle.elf_read.specs.Sound.{is_exported}
use Rattle.elf_read.specs.declared.object.Symbol.{Symbol}
use Rattle.elf_read.specs.declared.object.Reloc.{Reloc}
use Rattle.elf_read.specs.declared.object.Area.{Area}
use Rattle.elf_read.specs.declared.object.Area.TheVariants as areas
use Rattle.cfi_aux.specs.Records.{padding}
use Rattle.cfi_aux.specs.declared.modules.Module.{Module}
use Rattle.cfi_import.specs.declared.start.Start.{Start}
use Rattle.cfi_import.specs.declared.start.TheConstants.{STUB_BYTES, CELL_BYTES, STUB_SYMBOLS}

-- the number of the first symbol that is not local
abbrev pub first_shared : List Symbol → ℕ
first_shared [] = 0
first_shared (symbol ∷ symbols) = if is_exported symbol.binding then 0 else 1 + first_shared symbols

-- where stubs go in a module, how many they are
abbrev pub start_of : Module → (count : ℕ) → Start
start_of m count = record {
  count = count;
  text = length m.object.text;
  static_data = length m.object.static_data + padding (length m.object.static_data);
  types = length m.types;
  symbols = first_shared m.object.symbols;
}

-- the offset in the text of the stub of this place, and that in the data of its cell
abbrev pub stub_offset : Start → (place : ℕ) → ℕ
stub_offset start place = start.text + STUB_BYTES * place

-- where the cell of the import of this number begins in the data
abbrev pub cell_offset : Start → (place : ℕ) → ℕ
cell_offset start place = start.static_data + CELL_BYTES * place

-- the numbers of the symbols of the two
abbrev pub stub_symbol : Start → (place : ℕ) → ℕ
stub_symbol start place = start.symbols + STUB_SYMBOLS * place

-- the number of its symbol, which stands behind its stub's
abbrev pub cell_symbol : Start → (place : ℕ) → ℕ
cell_symbol start place = start.symbols + STUB_SYMBOLS * place + 1

-- ---- relocations

-- relocations of the area change the text
abbrev pub is_in_text : Area → Bool
is_in_text areas.Text = true
is_in_text areas.Data = false

-- the end that a relocation of this area gives, where it is in text, and else the one before
abbrev pub end_after : (end next : ℕ) → Area → ℕ
end_after end next area = if is_in_text area then next else end

-- how many relocations there are up to the last one in text
abbrev pub text_end : List Reloc → ℕ
text_end [] = 0
text_end (reloc ∷ relocs) =
    if list_any (λ one. is_in_text one.area) (reloc ∷ relocs) then 1 + text_end relocs else 0
