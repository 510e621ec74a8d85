-- The sections of a file, by their numbers (System V ELF, "Sections"), and which of them are kept.
use Rattle.std.specs.Prelude.{◌+◌, ◌*◌, ℕ, Bool, not, ◌&&◌, ◌||◌, ◌==◌, nat_eq, nat_lt, List, length, take, drop, bit_and}
use Rattle.std.specs.List.{starts_with}
use Rattle.elf_read.specs.Words.{u32_at}
use Rattle.elf_read.specs.Places.{first_where}
use Rattle.elf_read.specs.Header.{table_offset, section_count, names_number}
use Rattle.elf_read.specs.declared.header.TheConstants.{ENTRY_SIZE}
use Rattle.elf_read.specs.declared.section.Section.{Section}
use Rattle.elf_read.specs.declared.section.TheConstants.{PROGBITS, SYMTAB, STRTAB, RELA, NOBITS, ALLOC, EXECINSTR, EH_FRAME, CFI_TYPES, CFI_RECORDS}

-- the header of section k: its ten words but addr and entsize
unfoldable pub section_at : List ℕ → (k : ℕ) → Section
section_at bytes k =
    let at = table_offset bytes + ENTRY_SIZE * k in
    record {
      name = u32_at bytes at;
      kind = u32_at bytes (at + 4);
      flags = u32_at bytes (at + 8);
      offset = u32_at bytes (at + 16);
      size = u32_at bytes (at + 20);
      link = u32_at bytes (at + 24);
      info = u32_at bytes (at + 28);
      alignment = u32_at bytes (at + 32);
    }

-- the contents of section k
unfoldable pub contents : List ℕ → (k : ℕ) → List ℕ
contents bytes k = let section = section_at bytes k in take section.size (drop section.offset bytes)

-- the table of the sections' names
abbrev pub section_names : List ℕ → List ℕ
section_names bytes = contents bytes (names_number bytes)

-- section k has this name, which is given with the zero byte that ends it
unfoldable pub has_name : List ℕ → (k : ℕ) → (name : List ℕ) → Bool
has_name bytes k name = starts_with nat_eq (drop (section_at bytes k).name (section_names bytes)) name

-- a section has a flag
abbrev pub has_flag : Section → (flag : ℕ) → Bool
has_flag section flag = not (bit_and section.flags flag == 0)

-- section k is loaded: PROGBITS or NOBITS with ALLOC, and not .eh_frame
unfoldable pub is_loaded : List ℕ → (k : ℕ) → Bool
is_loaded bytes k =
    let section = section_at bytes k in
    (section.kind == PROGBITS || section.kind == NOBITS) && has_flag section ALLOC
    && not (has_name bytes k EH_FRAME.now)

-- a loaded section is text where it is executable, else data
unfoldable pub is_text : List ℕ → (k : ℕ) → Bool
is_text bytes k = is_loaded bytes k && has_flag (section_at bytes k) EXECINSTR

-- a section is kept data
unfoldable pub is_data : List ℕ → (k : ℕ) → Bool
is_data bytes k = is_loaded bytes k && not (has_flag (section_at bytes k) EXECINSTR)

-- a section of types or of records: PROGBITS without ALLOC, by name
unfoldable pub is_record_section : List ℕ → (name : List ℕ) → (k : ℕ) → Bool
is_record_section bytes name k =
    let section = section_at bytes k in
    section.kind == PROGBITS && not (has_flag section ALLOC) && has_name bytes k name

-- a section has types
abbrev pub is_types : List ℕ → (k : ℕ) → Bool
is_types bytes k = is_record_section bytes CFI_TYPES.now k

-- a section has records
abbrev pub is_records : List ℕ → (k : ℕ) → Bool
is_records bytes k = is_record_section bytes CFI_RECORDS.now k

-- the number of the first symbol table, or the number of sections where there is none
abbrev pub symbol_table : List ℕ → ℕ
symbol_table bytes = first_where (λ k. (section_at bytes k).kind == SYMTAB) (section_count bytes)

-- there is a symbol table
abbrev pub has_symbols : List ℕ → Bool
has_symbols bytes = nat_lt (symbol_table bytes) (section_count bytes)

-- a section is there and has this type
abbrev pub has_kind : List ℕ → (kind k : ℕ) → Bool
has_kind bytes kind k = nat_lt k (section_count bytes) && (section_at bytes k).kind == kind

-- section k holds the names of the first symbol table's symbols
unfoldable pub is_symbol_names : List ℕ → (k : ℕ) → Bool
is_symbol_names bytes k =
    has_symbols bytes && (section_at bytes (symbol_table bytes)).link == k && has_kind bytes STRTAB k

-- section k has relocations of loaded section `info`
unfoldable pub is_rela : List ℕ → (k : ℕ) → Bool
is_rela bytes k =
    let section = section_at bytes k in
    section.kind == RELA && nat_lt section.info (section_count bytes) && is_loaded bytes section.info

-- the sections that are kept: loaded ones, types, records, the first symbol table and its names, and relocations
unfoldable pub is_kept : List ℕ → (k : ℕ) → Bool
is_kept bytes k =
    is_loaded bytes k || is_types bytes k || is_records bytes k || k == symbol_table bytes || is_symbol_names bytes k
    || is_rela bytes k

-- the contents of kept section k pass the file's end
unfoldable pub is_short : List ℕ → (k : ℕ) → Bool
is_short bytes k =
    let section = section_at bytes k in
    is_kept bytes k && not (section.kind == NOBITS) && nat_lt (length bytes) (section.offset + section.size)

-- the number of the first section of this name, or the number of sections
abbrev pub first_named : List ℕ → (name : List ℕ) → ℕ
first_named bytes name = first_where (λ k. has_name bytes k name) (section_count bytes)
