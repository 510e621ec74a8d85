-- The relocations of a file, by section and entry (RISC-V ELF psABI, "Relocations"), and the rules that one may break.
use Rattle.std.specs.Prelude.{◌≡◌, ◌+◌, ◌*◌, ◌/◌, ◌%◌, ◌<◌, ℕ, Bool, not, ◌&&◌, ◌||◌, ◌==◌, if◌then◌else◌, nat_lt, List}
use Rattle.elf_read.specs.Words.{u32_at}
use Rattle.elf_read.specs.Places.{IsFirst, IsNone, total_of}
use Rattle.elf_read.specs.Header.{section_count}
use Rattle.elf_read.specs.Section.{section_at, contents, is_text, is_data, is_rela}
use Rattle.elf_read.specs.Symbol.{symbol_count, is_left_out}
use Rattle.elf_read.specs.declared.relocation.Rela.{Rela}
use Rattle.elf_read.specs.declared.relocation.TheConstants.{RELA_SIZE, NONE, WORD, BRANCH, JAL, CALL, CALL_PLT, PCREL_HI20, PCREL_LO12_I, PCREL_LO12_S, HI20, LO12_I, LO12_S, ADD32, SUB32, ALIGN, RELAX}

-- how many relocations section s has
unfoldable pub rela_count : List ℕ → (s : ℕ) → ℕ
rela_count bytes s = if is_rela bytes s then (section_at bytes s).size / RELA_SIZE else 0

-- how many the sections before s have
abbrev pub relas_before : List ℕ → (s : ℕ) → ℕ
relas_before bytes s = total_of (rela_count bytes) s

-- the words of entry i of a section's contents
abbrev pub entry_in : (entries : List ℕ) → (i : ℕ) → Rela
entry_in entries i =
    let at = RELA_SIZE * i in
    record { offset = u32_at entries at; info = u32_at entries (at + 4); addend = u32_at entries (at + 8) }

-- entry i of section s
unfoldable pub rela_at : List ℕ → (s i : ℕ) → Rela
rela_at bytes s i = entry_in (contents bytes s) i

-- the number of its symbol, and its kind
abbrev pub symbol_index : Rela → ℕ
symbol_index rela = rela.info / 256

-- the kind of a relocation
abbrev pub kind_of : Rela → ℕ
kind_of rela = rela.info % 256

-- the kinds that are dropped, of data, of instructions
abbrev pub is_dropped : (kind : ℕ) → Bool
is_dropped kind = kind == NONE || kind == ALIGN || kind == RELAX

-- it changes data
abbrev pub is_of_data : (kind : ℕ) → Bool
is_of_data kind = kind == WORD || kind == ADD32 || kind == SUB32

-- it changes the two instructions of a call
abbrev pub is_of_pair : (kind : ℕ) → Bool
is_of_pair kind = kind == CALL || kind == CALL_PLT

-- it changes instructions
unfoldable pub is_of_instruction : (kind : ℕ) → Bool
is_of_instruction kind = is_of_pair kind || kind == BRANCH || kind == JAL || kind == PCREL_HI20 || kind == PCREL_LO12_I
    || kind == PCREL_LO12_S || kind == HI20 || kind == LO12_I || kind == LO12_S

-- the kinds of the table
unfoldable pub is_known : (kind : ℕ) → Bool
is_known kind = is_dropped kind || is_of_data kind || is_of_instruction kind

-- the bytes of the field that it fills
unfoldable pub field_size : (kind : ℕ) → ℕ
field_size kind = if is_of_pair kind then 8 else (if is_dropped kind then 0 else 4)

-- its symbol is not there, or was left out
unfoldable pub is_bad_reference : List ℕ → Rela → Bool
is_bad_reference bytes rela = not (symbol_index rela == 0)
    && (not (nat_lt (symbol_index rela) (symbol_count bytes)) || is_left_out bytes (symbol_index rela))

-- its field leaves section `target`
unfoldable pub is_outside : List ℕ → (target : ℕ) → Rela → Bool
is_outside bytes target rela = nat_lt (section_at bytes target).size (rela.offset + field_size (kind_of rela))

-- it does not fit text or data: in text its offset is no multiple of 4 or it is a kind of data, in data it is an
-- instruction's
abbrev pub misfits : (text words : Bool) → Rela → Bool
misfits text words rela = (text && (not (rela.offset % 4 == 0) || is_of_data (kind_of rela)))
    || (words && is_of_instruction (kind_of rela))

-- it does not fit what the section `target` has
unfoldable pub is_misplaced : List ℕ → (target : ℕ) → Rela → Bool
is_misplaced bytes target rela = misfits (is_text bytes target) (is_data bytes target) rela

-- entry i of section s breaks a rule
unfoldable pub is_bad_rela_at : List ℕ → (s i : ℕ) → Bool
is_bad_rela_at bytes s i =
    let rela = rela_at bytes s i in
    let target = (section_at bytes s).info in
    is_bad_reference bytes rela || is_outside bytes target rela || is_misplaced bytes target rela

-- the kind of entry i of section s is in no table
unfoldable pub is_unknown_at : List ℕ → (s i : ℕ) → Bool
is_unknown_at bytes s i = not (is_known (kind_of (rela_at bytes s i)))

-- entry `entry` of section `section` is the first of the file that passes the test, and k its number among all
pub record IsFirstRela (bytes : List ℕ) (test : (s i : ℕ) → Bool) (k : ℕ) (section entry : ℕ) : Type 0 where
  pub within : section < section_count bytes
  pub first : IsFirst (test section) (rela_count bytes section) entry
  pub number : k ≡ relas_before bytes section + entry
  pub before : (s : ℕ) → s < section → IsNone (test s) (rela_count bytes s)

-- no entry of the sections before the count passes the test
abbrev pub IsNoRela : List ℕ → (test : (s i : ℕ) → Bool) → (count : ℕ) → Type 0
IsNoRela bytes test count = (s : ℕ) → s < count → IsNone (test s) (rela_count bytes s)
