-- Numbers as bytes, the low byte first (System V ELF, data representation).
use Rattle.std.specs.Prelude.{ℕ, List}
use Rattle.std.specs.List.{flat_map}
use Rattle.std.specs.Int.{w16, w32, to_le_bytes}

-- half words, and words
abbrev pub halves : List ℕ → List ℕ
halves numbers = flat_map (to_le_bytes w16) numbers

-- numbers as words
abbrev pub words : List ℕ → List ℕ
words numbers = flat_map (to_le_bytes w32) numbers
