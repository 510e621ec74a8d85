-- The bytes of a written file (System V ELF, "ELF Header" and "Sections"). Places and sizes are in bytes.
use Rattle.std.specs.Prelude.{ℕ, ◌+◌, ◌-◌, ◌%◌, ◌==◌, ◌<◌, ◌^◌, if◌then◌else◌, is_some, List, [], ◌∷◌, ◌++◌, length, take, replicate, get_or, count_by, Option, Some, None, All}
use Rattle.std.specs.List.{flat_map}
use Rattle.elf_read.specs.Places.{joined}
use Rattle.elf_read.specs.declared.header.TheConstants.{HEADER_SIZE, ENTRY_SIZE, IDENT, MACHINE, RELOCATABLE}
use Rattle.elf_read.specs.declared.object.Object.{Object}
use Rattle.elf_read.specs.declared.object.Area.TheVariants as areas
use Rattle.elf_write.specs.Words.{words, halves}
use Rattle.elf_write.specs.Part.{parts_of, section_name, kind_of, flags_of, alignment_of, entry_size_of}
use Rattle.elf_write.specs.Contents.{name_table, symbol_table, is_local_symbol, relas_of, info_of}
use Rattle.elf_write.specs.declared.part.Part.{Part}
use Rattle.elf_write.specs.declared.part.Part.TheVariants.{Null, Text, Data, Types, Records, TextRelas, DataRelas, Symbols, SymbolNames, SectionNames}

-- the sections of an object's file
abbrev pub sections_of : Object → List Part
sections_of object = parts_of (is_some object.types) (is_some object.records)

-- bytes that may be there
abbrev pub bytes_or_none : Option (List ℕ) → List ℕ
bytes_or_none None = []
bytes_or_none (Some bytes) = bytes

-- what a section holds
abbrev pub contents_of : Object → Part → List ℕ
contents_of object Null = []
contents_of object Text = object.text
contents_of object Data = object.static_data
contents_of object Types = bytes_or_none object.types
contents_of object Records = bytes_or_none object.records
contents_of object TextRelas = relas_of areas.Text object.relocs
contents_of object DataRelas = relas_of areas.Data object.relocs
contents_of object Symbols = symbol_table object.symbols
contents_of object SymbolNames = name_table object.symbols
contents_of object SectionNames = flat_map section_name (sections_of object)

-- the zeros after so many bytes, up to the next multiple of 4
unfoldable pub padding : (size : ℕ) → List ℕ
padding size = replicate ((4 - size % 4) % 4) 0

-- bytes, and zeros up to the next multiple of 4
unfoldable pub padded : List ℕ → List ℕ
padded bytes = bytes ++ padding (length bytes)

-- the contents of sections, one after the other
abbrev pub body_of : Object → List Part → List ℕ
body_of object sections = flat_map (λ part. padded (contents_of object part)) sections

-- how many sections of types and of records there are; the number of the symbol table, and of its names
abbrev pub extra_of : Object → ℕ
extra_of object = (if is_some object.types then 1 else 0) + (if is_some object.records then 1 else 0)

-- the number of the symbol table's section
abbrev pub symbols_number : Object → ℕ
symbols_number object = 5 + extra_of object

-- the number of the section with the names of symbols
abbrev pub names_number : Object → ℕ
names_number object = 6 + extra_of object

-- the section that a section links to
abbrev pub link_of : Object → Part → ℕ
link_of object TextRelas = symbols_number object
link_of object DataRelas = symbols_number object
link_of object Symbols = names_number object
link_of object _ = 0

-- the section that relocations change, and one more than the number of local symbols
abbrev pub info_of_part : Object → Part → ℕ
info_of_part object TextRelas = 1
info_of_part object DataRelas = 2
info_of_part object Symbols = 1 + count_by is_local_symbol object.symbols
info_of_part object _ = 0

-- where the name of section k begins, and where its contents do; section 0 has none
abbrev pub name_place : Object → (k : ℕ) → ℕ
name_place object k = length (flat_map section_name (take k (sections_of object)))

-- where a section begins
unfoldable pub section_place : Object → (k : ℕ) → ℕ
section_place object k = if k == 0 then 0 else HEADER_SIZE + length (body_of object (take k (sections_of object)))

-- the header of a section whose name and contents begin at these places
unfoldable pub part_header : Object → Part → (name place : ℕ) → List ℕ
part_header object part name place =
    words (name ∷ kind_of part ∷ flags_of part ∷ 0 ∷ place ∷ length (contents_of object part)
    ∷ link_of object part ∷ info_of_part object part ∷ alignment_of part ∷ entry_size_of part ∷ [])

-- the header of section k
abbrev pub header_of : Object → (k : ℕ) → List ℕ
header_of object k = part_header object (get_or (sections_of object) k Null) (name_place object k) (section_place object k)

-- the header of the file, where the section headers begin at `table` and are `count`
unfoldable pub file_header : (table count : ℕ) → List ℕ
file_header table count =
    IDENT ++ replicate 9 0 ++ halves (RELOCATABLE ∷ MACHINE ∷ []) ++ words (1 ∷ 0 ∷ 0 ∷ table ∷ 0 ∷ [])
    ++ halves (HEADER_SIZE ∷ 0 ∷ 0 ∷ ENTRY_SIZE ∷ count ∷ (count - 1) ∷ [])

-- where the section headers begin
abbrev pub table_place : Object → ℕ
table_place object = HEADER_SIZE + length (body_of object (sections_of object))

-- the file: its header, the contents of the sections, the section headers
unfoldable pub bytes_of : Object → List ℕ
bytes_of object = file_header (table_place object) (length (sections_of object)) ++ body_of object (sections_of object)
    ++ joined (header_of object) (length (sections_of object))

-- the numbers of the file fit its words
pub record IsWritable (object : Object) : Type 0 where
  pub size : length (bytes_of object) < 2 ^ 32
  pub infos : All (λ reloc. info_of reloc < 2 ^ 32) object.relocs
