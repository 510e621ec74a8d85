-- Words of a file, the low byte first (System V ELF, data representation). A place is a number of bytes from 0.
use Rattle.std.specs.Prelude.{ℕ, List}
use Rattle.byteorder.specs.Endian.{little_from}

-- the half word at a place
unfoldable pub u16_at : List ℕ → ℕ → ℕ
u16_at bytes at = little_from at 2 bytes

-- the word at a place
unfoldable pub u32_at : List ℕ → ℕ → ℕ
u32_at bytes at = little_from at 4 bytes
