-- The sections of a written file in their order, and the table of what each section header says by the kind of its
-- section (System V ELF, "Sections"). Names are given with the zero byte that ends them.
use Rattle.std.specs.Prelude.{ℕ, ◌+◌, Bool, if◌then◌else◌, List, [], ◌∷◌, ◌++◌}
use Rattle.elf_read.specs.declared.section.TheConstants.{PROGBITS, SYMTAB, STRTAB, RELA, ALLOC, EXECINSTR, CFI_TYPES, CFI_RECORDS}
use Rattle.elf_read.specs.declared.symbol.TheConstants.{SYMBOL_SIZE}
use Rattle.elf_read.specs.declared.relocation.TheConstants.{RELA_SIZE}
use Rattle.elf_write.specs.declared.part.TheConstants.{TEXT, DATA, TEXT_RELAS, DATA_RELAS, SYMBOLS, SYMBOL_NAMES, SECTION_NAMES, WRITE}
use Rattle.elf_write.specs.declared.part.Part.{Part}
use Rattle.elf_write.specs.declared.part.Part.TheVariants.{Null, Text, Data, Types, Records, TextRelas, DataRelas, Symbols, SymbolNames, SectionNames}
use Rattle.cfi_word.specs.declared.map.TheConstants.{DATA_ALIGNMENT}

-- the part where it is there
abbrev pub where_there : Bool → Part → List Part
where_there there part = if there then part ∷ [] else []

-- the sections in their order, with those of types and of records where they are there
abbrev pub parts_of : (types records : Bool) → List Part
parts_of types records =
    Null ∷ Text ∷ Data ∷ where_there types Types ++ where_there records Records
    ++ (TextRelas ∷ DataRelas ∷ Symbols ∷ SymbolNames ∷ SectionNames ∷ [])

-- the name of each section
abbrev pub section_name : Part → List ℕ
section_name Null = 0 ∷ []
section_name Text = TEXT.now
section_name Data = DATA.now
section_name Types = CFI_TYPES.now
section_name Records = CFI_RECORDS.now
section_name TextRelas = TEXT_RELAS.now
section_name DataRelas = DATA_RELAS.now
section_name Symbols = SYMBOLS.now
section_name SymbolNames = SYMBOL_NAMES.now
section_name SectionNames = SECTION_NAMES.now

-- its type
abbrev pub kind_of : Part → ℕ
kind_of Null = 0
kind_of Text = PROGBITS
kind_of Data = PROGBITS
kind_of Types = PROGBITS
kind_of Records = PROGBITS
kind_of TextRelas = RELA
kind_of DataRelas = RELA
kind_of Symbols = SYMTAB
kind_of SymbolNames = STRTAB
kind_of SectionNames = STRTAB

-- its flags
abbrev pub flags_of : Part → ℕ
flags_of Text = ALLOC + EXECINSTR
flags_of Data = WRITE + ALLOC
flags_of _ = 0

-- its alignment
abbrev pub alignment_of : Part → ℕ
alignment_of Null = 0
alignment_of Data = DATA_ALIGNMENT
alignment_of SymbolNames = 1
alignment_of SectionNames = 1
alignment_of _ = 4

-- the size of an entry, where it is a table
abbrev pub entry_size_of : Part → ℕ
entry_size_of TextRelas = RELA_SIZE
entry_size_of DataRelas = RELA_SIZE
entry_size_of Symbols = SYMBOL_SIZE
entry_size_of _ = 0
