-- Which words the records of functions and branches may have.
use Rattle.std.specs.Prelude.{ℕ, ◌+◌, ◌/◌, Bool, false, not, ◌==◌, ◌&&◌, ◌||◌, ◌%◌, nat_le, if◌then◌else◌, Option, Some, None}
use Rattle.cfi_aux.specs.declared.format.TheConstants.{CALL, TAIL, RETURN, SWITCH, IMPORT, MIN_IMPORT, MAX_IMPORT}
use Rattle.cfi_word.specs.declared.limits.TheConstants.{MAX_NAME, MAX_ENTRIES}

-- a number of bytes that whole instructions have
abbrev pub is_whole : ℕ → Bool
is_whole n = n % 4 == 0

-- a function's length in bytes
abbrev pub is_length : ℕ → Bool
is_length n = n % 4 == 0 && not (n == 0)

-- a function's flags: 1 where its address is taken, else 0
abbrev pub is_flag : ℕ → Bool
is_flag n = nat_le n 1

-- the number of bytes of a name
abbrev pub is_name_length : ℕ → Bool
is_name_length n = nat_le 1 n && nat_le n MAX_NAME

-- how many words an import has: its cell, the length of its name, and the name with its padding
abbrev pub import_words : (length : ℕ) → ℕ
import_words length = 2 + (length + 3) / 4

-- the number of bytes of the name of an import that has n words
abbrev pub fits_import : (n length : ℕ) → Bool
fits_import n length = is_name_length length && import_words length == n

-- a cell of four bytes that begins at a multiple of four and ends within `size` bytes of data
abbrev pub is_cell : (size cell : ℕ) → Bool
is_cell size cell = is_whole cell && nat_le (cell + 4) size

-- where it begins, also where the length of the data is not known
abbrev pub is_cell_in : (size : Option ℕ) → (cell : ℕ) → Bool
is_cell_in None cell = is_whole cell
is_cell_in (Some size) cell = is_cell size cell

-- whether a branch of the kind may have n words: a call and a tail call one, a return none, a switch its entries, an
-- import those of a name of 1 to 255 bytes
abbrev pub has_count : (kind n : ℕ) → Bool
has_count kind n =
    if kind == CALL || kind == TAIL then n == 1
    else (if kind == RETURN then n == 0
    else (if kind == SWITCH then nat_le 1 n && nat_le n MAX_ENTRIES
    else (if kind == IMPORT then nat_le MIN_IMPORT n && nat_le n MAX_IMPORT else false)))
