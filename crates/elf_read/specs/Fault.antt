-- The passes over a file, in their order, and its first fault.
use Rattle.std.specs.Prelude.{◌≡◌, ◌≢◌, ◌+◌, ◌*◌, ◌/◌, ◌<◌, ◌≤◌, ◌⊎◌, ℕ, true, false, List, length}
use Rattle.elf_read.specs.Places.{IsFirst, IsNone, total_of}
use Rattle.elf_read.specs.Header.{is_elf32, machine_of, type_of, table_offset, section_count, entry_size, names_number, IsRelocatable, HasTable, HasShape}
use Rattle.elf_read.specs.Section.{section_at, is_short}
use Rattle.elf_read.specs.BadSection.{is_bad_section}
use Rattle.elf_read.specs.Symbol.{symbol_count, is_bad_symbol, is_common}
use Rattle.elf_read.specs.Relocation.{is_bad_rela_at, is_unknown_at, rela_at, kind_of, IsFirstRela, IsNoRela}
use Rattle.elf_read.specs.Join.{text_end, data_end}
use Rattle.elf_read.specs.Object.{HasKept, kept_count, symbol_number}
use Rattle.elf_read.specs.declared.object.Object.{Object}
use Rattle.elf_read.specs.declared.fault.ElfFault.{ElfFault}
use Rattle.elf_read.specs.declared.fault.ElfFault.TheVariants.{Short, NotElf32, NotRiscv, NotRelocatable, BadSection, BadSymbol, BadReloc, UnknownReloc, Common, TooMany, Memory}
use Rattle.elf_read.specs.declared.fault.Limit.{Limit}
use Rattle.elf_read.specs.declared.fault.Limit.TheVariants.{Sections, Symbols, Relocs, Words, Data}
use Rattle.elf_read.specs.declared.header.TheConstants.{HEADER_SIZE, ENTRY_SIZE, MACHINE, RELOCATABLE}
use Rattle.cfi_word.specs.declared.limits.TheConstants.{MAX_SECTIONS, MAX_SYMBOLS, MAX_RELOCS, MAX_WORDS, MAX_DATA}

-- the table of section names is in the file
pub record HasNames (bytes : List ℕ) : Type 0 where
  pub shape : HasShape bytes
  pub names : (section_at bytes (names_number bytes)).offset + (section_at bytes (names_number bytes)).size
      ≤ length bytes

-- the contents of kept sections are in the file
pub record HasContents (bytes : List ℕ) : Type 0 where
  pub names : HasNames bytes
  pub whole : IsNone (is_short bytes) (section_count bytes)

-- no section breaks a rule
pub record HasSections (bytes : List ℕ) : Type 0 where
  pub contents : HasContents bytes
  pub good : IsNone (is_bad_section bytes) (section_count bytes)

-- no symbol breaks a rule
pub record HasSymbols (bytes : List ℕ) : Type 0 where
  pub sections : HasSections bytes
  pub good : IsNone (is_bad_symbol bytes) (symbol_count bytes)

-- no relocation breaks a rule
pub record HasRelas (bytes : List ℕ) : Type 0 where
  pub symbols : HasSymbols bytes
  pub good : IsNoRela bytes (is_bad_rela_at bytes) (section_count bytes)

-- the kind of each relocation is known
pub record HasKinds (bytes : List ℕ) : Type 0 where
  pub relas : HasRelas bytes
  pub known : IsNoRela bytes (is_unknown_at bytes) (section_count bytes)

-- no symbol is a common block
pub record HasPlaces (bytes : List ℕ) : Type 0 where
  pub kinds : HasKinds bytes
  pub placed : IsNone (is_common bytes) (symbol_count bytes)

-- how many symbols, relocations, words of text and bytes of data are kept
abbrev pub kept_symbols : List ℕ → ℕ
kept_symbols bytes = symbol_number bytes (symbol_count bytes)

-- how many relocations are kept
abbrev pub kept_relocs : List ℕ → ℕ
kept_relocs bytes = total_of (kept_count bytes) (section_count bytes)

-- how many words of text
abbrev pub kept_words : List ℕ → ℕ
kept_words bytes = text_end bytes (section_count bytes) / 4

-- how many bytes of data
abbrev pub kept_data : List ℕ → ℕ
kept_data bytes = data_end bytes (section_count bytes)

-- the file passes all passes
pub record IsSound (bytes : List ℕ) : Type 0 where
  pub places : HasPlaces bytes
  pub symbols : kept_symbols bytes ≤ MAX_SYMBOLS
  pub relocs : kept_relocs bytes ≤ MAX_RELOCS
  pub words : kept_words bytes ≤ MAX_WORDS
  pub data_size : kept_data bytes ≤ MAX_DATA

-- what begins at this offset passes the file's end: the header, the section headers, the section names or a
-- section's contents
abbrev pub IsShort : List ℕ → (offset : ℕ) → Type 0
IsShort bytes offset =
    ((length bytes < HEADER_SIZE) × (offset ≡ 0))
    ⊎ (IsRelocatable bytes × (section_count bytes ≤ MAX_SECTIONS)
    × (length bytes < table_offset bytes + ENTRY_SIZE * section_count bytes) × (offset ≡ table_offset bytes))
    ⊎ (HasShape bytes
    × (length bytes < (section_at bytes (names_number bytes)).offset + (section_at bytes (names_number bytes)).size)
    × (offset ≡ (section_at bytes (names_number bytes)).offset))
    ⊎ (HasNames bytes
    × ((k : ℕ) × IsFirst (is_short bytes) (section_count bytes) k × (offset ≡ (section_at bytes k).offset)))

-- section k is the first that breaks a rule; the rules of the table itself stand at 0
abbrev pub IsBadSection : List ℕ → (k : ℕ) → Type 0
IsBadSection bytes k =
    (HasTable bytes × ((entry_size bytes ≢ ENTRY_SIZE) ⊎ (section_count bytes ≤ names_number bytes)) × (k ≡ 0))
    ⊎ (HasContents bytes × IsFirst (is_bad_section bytes) (section_count bytes) k)

-- the limit is the first that the file passes
abbrev pub IsPassed : List ℕ → Limit → Type 0
IsPassed bytes Sections = IsRelocatable bytes × (MAX_SECTIONS < section_count bytes)
IsPassed bytes Symbols = HasPlaces bytes × (MAX_SYMBOLS < kept_symbols bytes)
IsPassed bytes Relocs = HasPlaces bytes × (kept_symbols bytes ≤ MAX_SYMBOLS) × (MAX_RELOCS < kept_relocs bytes)
IsPassed bytes Words =
    HasPlaces bytes × (kept_symbols bytes ≤ MAX_SYMBOLS) × (kept_relocs bytes ≤ MAX_RELOCS)
    × (MAX_WORDS < kept_words bytes)
IsPassed bytes Data =
    HasPlaces bytes × (kept_symbols bytes ≤ MAX_SYMBOLS) × (kept_relocs bytes ≤ MAX_RELOCS)
    × (kept_words bytes ≤ MAX_WORDS) × (MAX_DATA < kept_data bytes)
IsPassed bytes _ = ⊥

-- the fault is the file's first: its pass has a case there and none before, and no earlier pass has one. Want of
-- memory may come at any file.
abbrev pub IsFirstFault : List ℕ → ElfFault → Type 0
IsFirstFault bytes (Short offset) = IsShort bytes offset
IsFirstFault bytes NotElf32 = (HEADER_SIZE ≤ length bytes) × (is_elf32 bytes ≡ false)
IsFirstFault bytes NotRiscv = (HEADER_SIZE ≤ length bytes) × (is_elf32 bytes ≡ true) × (machine_of bytes ≢ MACHINE)
IsFirstFault bytes NotRelocatable =
    (HEADER_SIZE ≤ length bytes) × (is_elf32 bytes ≡ true) × (machine_of bytes ≡ MACHINE)
    × (type_of bytes ≢ RELOCATABLE)
IsFirstFault bytes (BadSection k) = IsBadSection bytes k
IsFirstFault bytes (BadSymbol k) = HasSections bytes × IsFirst (is_bad_symbol bytes) (symbol_count bytes) k
IsFirstFault bytes (BadReloc k) = HasSymbols bytes × ((s i : ℕ) × IsFirstRela bytes (is_bad_rela_at bytes) k s i)
IsFirstFault bytes (UnknownReloc k kind) =
    HasRelas bytes × ((s i : ℕ) × IsFirstRela bytes (is_unknown_at bytes) k s i × (kind ≡ kind_of (rela_at bytes s i)))
IsFirstFault bytes (Common k) = HasKinds bytes × IsFirst (is_common bytes) (symbol_count bytes) k
IsFirstFault bytes (TooMany limit) = IsPassed bytes limit
IsFirstFault bytes Memory = Unit {0}

-- the object is the one that the bytes are
pub record IsObject (bytes : List ℕ) (object : Object) : Type 0 where
  pub sound : IsSound bytes
  pub kept : HasKept bytes object
