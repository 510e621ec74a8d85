-- The header of an ELF32 file (System V ELF, "ELF Header"). Offsets and sizes are in bytes.
use Rattle.std.specs.Prelude.{◌≡◌, ◌+◌, ◌*◌, ◌<◌, ◌≤◌, ℕ, Bool, true, List, ◌∷◌, [], length, nat_eq}
use Rattle.std.specs.List.{starts_with}
use Rattle.elf_read.specs.Words.{u16_at, u32_at}
use Rattle.elf_read.specs.declared.header.TheConstants.{HEADER_SIZE, ENTRY_SIZE, MACHINE, RELOCATABLE}
use Rattle.cfi_word.specs.declared.limits.TheConstants.{MAX_SECTIONS}

-- the file begins with ELF's four bytes, the class of 32 bits, the low byte first, and version 1
abbrev pub is_elf32 : List ℕ → Bool
is_elf32 bytes = starts_with nat_eq bytes (0x7f ∷ 0x45 ∷ 0x4c ∷ 0x46 ∷ 1 ∷ 1 ∷ 1 ∷ [])

-- e_type, e_machine, e_shoff, e_shentsize, e_shnum and e_shstrndx
abbrev pub type_of : List ℕ → ℕ
type_of bytes = u16_at bytes 16

-- the processor
abbrev pub machine_of : List ℕ → ℕ
machine_of bytes = u16_at bytes 18

-- where the section headers begin
abbrev pub table_offset : List ℕ → ℕ
table_offset bytes = u32_at bytes 32

-- how long a section header is
abbrev pub entry_size : List ℕ → ℕ
entry_size bytes = u16_at bytes 46

-- how many sections there are
abbrev pub section_count : List ℕ → ℕ
section_count bytes = u16_at bytes 48

-- the number of the section with their names
abbrev pub names_number : List ℕ → ℕ
names_number bytes = u16_at bytes 50

-- a relocatable ELF32 file for RISC-V, by its header
pub record IsRelocatable (bytes : List ℕ) : Type 0 where
  pub whole : HEADER_SIZE ≤ length bytes
  pub elf : is_elf32 bytes ≡ true
  pub machine : machine_of bytes ≡ MACHINE
  pub kind : type_of bytes ≡ RELOCATABLE

-- its section header table is in the file
pub record HasTable (bytes : List ℕ) : Type 0 where
  pub header : IsRelocatable bytes
  pub few : section_count bytes ≤ MAX_SECTIONS
  pub table : table_offset bytes + ENTRY_SIZE * section_count bytes ≤ length bytes

-- its table has entries of the stated size, and among them the section of names
pub record HasShape (bytes : List ℕ) : Type 0 where
  pub table : HasTable bytes
  pub size : entry_size bytes ≡ ENTRY_SIZE
  pub names : names_number bytes < section_count bytes
