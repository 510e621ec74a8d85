-- IDs (MCFI, Niu and Tan, PLDI 2014): four bytes. The two high bytes have the fourteen bits of a class number, seven
-- to a byte, and the two low bytes those of a version. The lowest bits of the bytes are 0, 0, 0, 1 from high to low.
use Rattle.std.specs.Prelude.{ℕ, ◌+◌, ◌*◌, ◌/◌, ◌%◌, ◌≤◌}
use Rattle.cfi_word.specs.declared.ids.TheConstants.{FIELD_MAX}

-- a class number or a version, which has fourteen bits
abbrev pub IsField : ℕ → Type 0
IsField field = field ≤ FIELD_MAX

-- fourteen bits over two bytes, seven above the lowest bit of each
abbrev pub spread_of : (field : ℕ) → ℕ
spread_of field = 256 * (2 * (field / 128)) + 2 * (field % 128)

-- the ID of a class number and a version
unfoldable pub id_of : (class version : ℕ) → ℕ
id_of class version = 65536 * spread_of class + spread_of version + 1

-- the fourteen bits of two bytes without the lowest bit of each
abbrev pub gathered_of : (half : ℕ) → ℕ
gathered_of half = 128 * (half / 256 / 2) + half % 256 / 2

-- the class number in the two high bytes of a word
unfoldable pub class_in : (word : ℕ) → ℕ
class_in word = gathered_of (word / 65536)

-- the two low bytes of an ID, which tell its version
abbrev pub low_half : (word : ℕ) → ℕ
low_half word = word % 65536

-- the version in the two low bytes of a word
unfoldable pub version_in : (word : ℕ) → ℕ
version_in word = gathered_of (low_half word)
