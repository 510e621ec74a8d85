-- Private data: bytes by their offset from the first address of private data, the least byte of a number first
-- (RISC-V Unprivileged ISA 20191213, 1.4 and 2.6).
use Rattle.std.specs.Prelude.{ℕ, ◌+◌, ◌-◌, ◌*◌, ◌/◌, ◌%◌, ◌^◌, ◌≤◌, ◌==◌, Bool, nat_lt, if◌then◌else◌, List, slice_index, slice_set, replicate, length}
use Rattle.std.specs.List.{splice, fold}
use Rattle.rv_insn.specs.declared.insn.LoadKind.{LoadKind}
use Rattle.rv_insn.specs.declared.insn.LoadKind.TheVariants.{Lb, Lh, Lw, Lbu, Lhu}
use Rattle.rv_insn.specs.declared.insn.StoreKind.{StoreKind}
use Rattle.rv_insn.specs.declared.insn.StoreKind.TheVariants.{Sb, Sh, Sw}
use Rattle.cfi_unit.specs.declared.fill.Fill.{Fill}
use Rattle.cfi_word.specs.declared.map.TheConstants.{DATA_START, DATA_BYTES}

-- so many bytes of 0
unfoldable pub zeroes : (count : ℕ) → List ℕ
zeroes count = replicate count 0

-- how many bytes a load reads
abbrev pub load_width : LoadKind → ℕ
load_width Lb = 1
load_width Lh = 2
load_width Lw = 4
load_width Lbu = 1
load_width Lhu = 2

-- how many bytes a store writes
abbrev pub store_width : StoreKind → ℕ
store_width Sb = 1
store_width Sh = 2
store_width Sw = 4

-- an address is a multiple of an access's width
abbrev pub is_aligned : (width address : ℕ) → Bool
is_aligned width address = address % width == 0

-- the numbers of one, two and four bytes at an offset
abbrev pub byte_at : List ℕ → (offset : ℕ) → ℕ
byte_at bytes offset = slice_index bytes offset

-- the two bytes at an offset, as a number
abbrev pub half_at : List ℕ → (offset : ℕ) → ℕ
half_at bytes offset = byte_at bytes offset + 2 ^ 8 * byte_at bytes (offset + 1)

-- the four bytes there, as a number
abbrev pub word_at : List ℕ → (offset : ℕ) → ℕ
word_at bytes offset = half_at bytes offset + 2 ^ 16 * half_at bytes (offset + 2)

-- a number below 2 * half in 32 bits, with copies of its highest bit before it
abbrev pub sign_extended : (half number : ℕ) → ℕ
sign_extended half number = if nat_lt number half then number else 2 ^ 32 - 2 * half + number

-- what a load gives
abbrev pub loaded : LoadKind → List ℕ → (offset : ℕ) → ℕ
loaded Lb bytes offset = sign_extended (2 ^ 7) (byte_at bytes offset)
loaded Lh bytes offset = sign_extended (2 ^ 15) (half_at bytes offset)
loaded Lw bytes offset = word_at bytes offset
loaded Lbu bytes offset = byte_at bytes offset
loaded Lhu bytes offset = half_at bytes offset

-- the data after a number of one, two or four bytes was written
abbrev pub with_byte : List ℕ → (offset value : ℕ) → List ℕ
with_byte bytes offset value = slice_set bytes offset (value % 2 ^ 8)

-- the bytes with a number of two put there
abbrev pub with_half : List ℕ → (offset value : ℕ) → List ℕ
with_half bytes offset value = with_byte (with_byte bytes offset value) (offset + 1) (value / 2 ^ 8)

-- the bytes with a number of four put there
abbrev pub with_data_word : List ℕ → (offset value : ℕ) → List ℕ
with_data_word bytes offset value = with_half (with_half bytes offset value) (offset + 2) (value / 2 ^ 16)

-- what a store makes of the data
abbrev pub stored : StoreKind → List ℕ → (offset value : ℕ) → List ℕ
stored Sb bytes offset value = with_byte bytes offset value
stored Sh bytes offset value = with_half bytes offset value
stored Sw bytes offset value = with_data_word bytes offset value

-- a fill lies inside private data
pub record LiesInData (fill : Fill) : Type 0 where
  pub first : DATA_START ≤ fill.at
  pub last : fill.at - DATA_START + length fill.bytes ≤ DATA_BYTES

-- the data after a fill: its bytes stand from its address on
abbrev pub filled : List ℕ → Fill → List ℕ
filled bytes fill = splice bytes (fill.at - DATA_START) (fill.at - DATA_START + length fill.bytes) fill.bytes

-- the data after fills, one after the other
abbrev pub filled_by : List ℕ → List Fill → List ℕ
filled_by bytes fills = fold filled bytes fills
