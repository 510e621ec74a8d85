-- Words among bytes, the low byte first (System V ELF, data representation). A place is a number of bytes from 0.
use Rattle.std.specs.Prelude.{ℕ, ◌+◌, List, ◌++◌, take, drop}
use Rattle.std.specs.Int.{w32, from_le_bytes, to_le_bytes}

-- the word at a place
unfoldable pub word_at : (at : ℕ) → List ℕ → ℕ
word_at at bytes = from_le_bytes w32 (take 4 (drop at bytes))

-- the bytes with a word at a place
unfoldable pub with_word : (at word : ℕ) → List ℕ → List ℕ
with_word at word bytes = take at bytes ++ to_le_bytes w32 word ++ drop (at + 4) bytes
