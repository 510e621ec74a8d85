-- The rules that a section may break.
use Rattle.std.specs.Prelude.{◌%◌, ℕ, Bool, not, ◌&&◌, ◌||◌, ◌==◌, nat_lt, nat_le, List, drop}
use Rattle.std.specs.List.{list_any}
use Rattle.std.specs.Int.{is_power_of_two}
use Rattle.elf_read.specs.Header.{section_count}
use Rattle.elf_read.specs.Section.{section_at, section_names, has_name, has_flag, has_kind, is_loaded, is_text, is_types, is_records, is_kept, is_rela, symbol_table, has_symbols, first_named}
use Rattle.elf_read.specs.declared.section.TheConstants.{SYMTAB, STRTAB, RELA, NOBITS, REL, INIT_ARRAY, PREINIT_ARRAY, ALLOC, TLS, CFI_TYPES, CFI_RECORDS}
use Rattle.elf_read.specs.declared.symbol.TheConstants.{SYMBOL_SIZE}
use Rattle.elf_read.specs.declared.relocation.TheConstants.{RELA_SIZE}

-- with ALLOC it is thread-local or an array of functions
unfoldable pub is_refused : List ℕ → (k : ℕ) → Bool
is_refused bytes k =
    let section = section_at bytes k in
    has_flag section ALLOC
    && (has_flag section TLS || (nat_le INIT_ARRAY section.kind && nat_le section.kind PREINIT_ARRAY))

-- it is text without bytes in the file, or not of whole words
unfoldable pub is_bad_text : List ℕ → (k : ℕ) → Bool
is_bad_text bytes k =
    let section = section_at bytes k in
    is_text bytes k && (section.kind == NOBITS || not (section.size % 4 == 0))

-- it is kept, and its alignment is neither 0 nor a power of two
unfoldable pub is_misaligned : List ℕ → (k : ℕ) → Bool
is_misaligned bytes k =
    let section = section_at bytes k in
    is_kept bytes k && not (section.alignment == 0) && not (is_power_of_two section.alignment)

-- it is a second section of this name
unfoldable pub is_second : List ℕ → (name : List ℕ) → (k : ℕ) → Bool
is_second bytes name k = has_name bytes k name && nat_lt (first_named bytes name) k

-- it is a symbol table, and its size is no multiple of a symbol's, or its link is no table of names
unfoldable pub is_bad_symbol_table : List ℕ → (k : ℕ) → Bool
is_bad_symbol_table bytes k =
    let section = section_at bytes k in
    section.kind == SYMTAB && (not (section.size % SYMBOL_SIZE == 0) || not (has_kind bytes STRTAB section.link))

-- it has relocations of types or records, or relocations without addends of a loaded section
unfoldable pub is_bad_target : List ℕ → (k : ℕ) → Bool
is_bad_target bytes k =
    let section = section_at bytes k in
    nat_lt section.info (section_count bytes)
    && (((section.kind == RELA || section.kind == REL)
    && (is_types bytes section.info || is_records bytes section.info))
    || (section.kind == REL && is_loaded bytes section.info))

-- it has kept relocations, and its size is no multiple of an entry's, or its link is not the first symbol table
unfoldable pub is_bad_rela : List ℕ → (k : ℕ) → Bool
is_bad_rela bytes k =
    let section = section_at bytes k in
    is_rela bytes k
    && (not (section.size % RELA_SIZE == 0) || not (has_symbols bytes) || not (section.link == symbol_table bytes))

-- its name has an end in the table of names
unfoldable pub is_named : List ℕ → (k : ℕ) → Bool
is_named bytes k = list_any (λ byte. byte == 0) (drop (section_at bytes k).name (section_names bytes))

-- section k breaks a rule
unfoldable pub is_bad_section : List ℕ → (k : ℕ) → Bool
is_bad_section bytes k =
    is_refused bytes k || is_bad_text bytes k || is_misaligned bytes k || is_second bytes CFI_TYPES.now k
    || is_second bytes CFI_RECORDS.now k || is_bad_symbol_table bytes k || is_bad_target bytes k || is_bad_rela bytes k
    || not (is_named bytes k)
