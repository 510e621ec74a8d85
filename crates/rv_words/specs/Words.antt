-- The words that bytes are, four bytes to a word, the lowest first (RISC-V Unprivileged ISA 20191213, 1.5).
use Rattle.std.specs.Prelude.{◌≡◌, ℕ, ◌*◌, ◌<◌, List, length, drop, slice_index}
use Rattle.byteorder.specs.Endian.{little_number}

-- the bytes are these words
pub record AreWords (bytes words : List ℕ) : Type 0 where
  pub whole : length bytes ≡ 4 * length words
  pub each : (k : ℕ) → k < length words → slice_index words k ≡ little_number 4 (drop (4 * k) bytes)
