-- The symbols of the first symbol table, by their numbers (System V ELF, "Symbol Table"), and the rules that one
-- may break.
use Rattle.std.specs.Prelude.{◌+◌, ◌*◌, ◌/◌, ◌%◌, ℕ, Bool, not, ◌&&◌, ◌||◌, ◌==◌, if◌then◌else◌, nat_lt, nat_le, List, [], length, drop, slice_index}
use Rattle.std.specs.List.{list_any, before_first}
use Rattle.std.specs.Str.{bytes_eq}
use Rattle.std.specs.Str.Lossy.{utf8_valid_len}
use Rattle.elf_read.specs.Words.{u16_at, u32_at}
use Rattle.elf_read.specs.Places.{some_below}
use Rattle.elf_read.specs.Header.{section_count}
use Rattle.elf_read.specs.Section.{section_at, contents, is_loaded, symbol_table, has_symbols}
use Rattle.elf_read.specs.declared.symbol.Entry.{Entry}
use Rattle.elf_read.specs.declared.symbol.TheConstants.{SYMBOL_SIZE, LOCAL, GLOBAL, WEAK, SECTION, FILE, THREAD_LOCAL, UNDEFINED, ABSOLUTE, COMMON}
use Rattle.cfi_word.specs.declared.limits.TheConstants.{MAX_NAME}

-- the bytes of the first symbol table, and of the names of its symbols; none where there is no table
unfoldable pub symbol_bytes : List ℕ → List ℕ
symbol_bytes bytes = if has_symbols bytes then contents bytes (symbol_table bytes) else []

-- the bytes with the names of symbols
unfoldable pub symbol_names : List ℕ → List ℕ
symbol_names bytes = if has_symbols bytes then contents bytes (section_at bytes (symbol_table bytes)).link else []

-- how many symbols there are
abbrev pub symbol_count : List ℕ → ℕ
symbol_count bytes = length (symbol_bytes bytes) / SYMBOL_SIZE

-- the words of symbol k but its size
unfoldable pub symbol_at : List ℕ → (k : ℕ) → Entry
symbol_at bytes k =
    let at = SYMBOL_SIZE * k in
    record {
      name = u32_at (symbol_bytes bytes) at;
      value = u32_at (symbol_bytes bytes) (at + 4);
      info = slice_index (symbol_bytes bytes) (at + 12);
      section = u16_at (symbol_bytes bytes) (at + 14);
    }

-- its type and its binding
abbrev pub type_of : Entry → ℕ
type_of symbol = symbol.info % 16

-- the binding of a symbol
abbrev pub binding_of : Entry → ℕ
binding_of symbol = symbol.info / 16

-- the bytes of its name: those from its place on up to the first zero byte
unfoldable pub stored_name : List ℕ → (k : ℕ) → List ℕ
stored_name bytes k = before_first (λ byte. byte == 0) (drop (symbol_at bytes k).name (symbol_names bytes))

-- its name, which for a section's symbol is empty
unfoldable pub name_of : List ℕ → (k : ℕ) → List ℕ
name_of bytes k = if type_of (symbol_at bytes k) == SECTION then [] else stored_name bytes k

-- its name is ended, not too long, and UTF-8
unfoldable pub is_well_named : List ℕ → (k : ℕ) → Bool
is_well_named bytes k =
    list_any (λ byte. byte == 0) (drop (symbol_at bytes k).name (symbol_names bytes))
    && nat_le (length (stored_name bytes k)) MAX_NAME
    && utf8_valid_len (stored_name bytes k) == length (stored_name bytes k)

-- it is global or weak
abbrev pub is_exported_entry : Entry → Bool
is_exported_entry symbol = binding_of symbol == GLOBAL || binding_of symbol == WEAK

-- it lies in a section
abbrev pub is_in_section : List ℕ → Entry → Bool
is_in_section bytes symbol = not (symbol.section == UNDEFINED) && nat_lt symbol.section (section_count bytes)

-- it is left out: symbol 0, a file's name, or in a section that is not loaded
unfoldable pub is_left_out : List ℕ → (k : ℕ) → Bool
is_left_out bytes k =
    let symbol = symbol_at bytes k in
    k == 0 || type_of symbol == FILE || (is_in_section bytes symbol && not (is_loaded bytes symbol.section))

-- it defines its global or weak name
unfoldable pub is_definition_at : List ℕ → (k : ℕ) → Bool
is_definition_at bytes k =
    let symbol = symbol_at bytes k in
    is_exported_entry symbol && not (symbol.section == UNDEFINED)

-- it defines this name
unfoldable pub defines : List ℕ → (name : List ℕ) → (k : ℕ) → Bool
defines bytes name k = is_definition_at bytes k && bytes_eq (name_of bytes k) name

-- its type or its binding is not taken
unfoldable pub is_bad_info : List ℕ → (k : ℕ) → Bool
is_bad_info bytes k =
    let symbol = symbol_at bytes k in
    type_of symbol == THREAD_LOCAL || nat_lt WEAK (binding_of symbol)

-- its section is none
unfoldable pub is_bad_place : List ℕ → (k : ℕ) → Bool
is_bad_place bytes k =
    let symbol = symbol_at bytes k in
    not (symbol.section == UNDEFINED || symbol.section == ABSOLUTE || symbol.section == COMMON
    || nat_lt symbol.section (section_count bytes))

-- it is global or weak and has no name
unfoldable pub is_nameless : List ℕ → (k : ℕ) → Bool
is_nameless bytes k = is_exported_entry (symbol_at bytes k) && length (name_of bytes k) == 0

-- it is kept, local and undefined
unfoldable pub is_local_undefined : List ℕ → (k : ℕ) → Bool
is_local_undefined bytes k =
    let symbol = symbol_at bytes k in
    not (is_left_out bytes k) && binding_of symbol == LOCAL && symbol.section == UNDEFINED

-- its value is past the size of its loaded section
unfoldable pub is_past_section : List ℕ → (k : ℕ) → Bool
is_past_section bytes k =
    let symbol = symbol_at bytes k in
    is_in_section bytes symbol && is_loaded bytes symbol.section
    && nat_lt (section_at bytes symbol.section).size symbol.value

-- an earlier symbol defines the name that it defines
unfoldable pub is_second_definition : List ℕ → (k : ℕ) → Bool
is_second_definition bytes k = is_definition_at bytes k && some_below (defines bytes (name_of bytes k)) k

-- symbol k breaks a rule
unfoldable pub is_bad_symbol : List ℕ → (k : ℕ) → Bool
is_bad_symbol bytes k =
    is_bad_info bytes k || is_bad_place bytes k || not (is_well_named bytes k) || is_nameless bytes k
    || is_local_undefined bytes k || is_past_section bytes k || is_second_definition bytes k

-- symbol k is a common block
unfoldable pub is_common : List ℕ → (k : ℕ) → Bool
is_common bytes k = (symbol_at bytes k).section == COMMON
