-- Names of sources and plans: 1 to `MAX_NAME` of letters, digits, `_`, `.` and `$`. A name begins with no digit, and not with
-- `.Lpc`, which begins labels that the assembler makes.
use Rattle.std.specs.Prelude.{ℕ, Bool, false, ◌||◌, ◌&&◌, not, ◌==◌, nat_eq, nat_le, List, [], ◌∷◌, length, codes, if◌then◌else◌, Option, Some, None}
use Rattle.std.specs.Char.{is_ascii_digit, is_ascii_alphanumeric}
use Rattle.std.specs.List.{list_all, starts_with}
use Rattle.cfi_word.specs.declared.limits.TheConstants.{MAX_NAME}
use Rattle.std.specs.Str.{is_utf8}

-- `_`, `.` and `$` are 95, 46 and 36
abbrev pub is_name_byte : (byte : ℕ) → Bool
is_name_byte byte = is_ascii_alphanumeric byte || byte == 95 || byte == 46 || byte == 36

-- the word has a byte, and it is no digit
abbrev pub begins_name : (word : List ℕ) → Bool
begins_name [] = false
begins_name (byte ∷ bytes) = not (is_ascii_digit byte)

-- a name
unfoldable pub is_name : (word : List ℕ) → Bool
is_name word = begins_name word && nat_le (length word) MAX_NAME && list_all is_name_byte word
    && not (starts_with nat_eq word (codes ".Lpc"))

-- the name that the word is
abbrev pub name_in : (word : List ℕ) → Option (List ℕ)
name_in word = if is_name word then Some word else None

-- the name of a file: UTF-8
unfoldable pub is_file : (word : List ℕ) → Bool
is_file word = nat_le 1 (length word) && nat_le (length word) MAX_NAME && is_utf8 word

-- the file's name that the word is
abbrev pub file_in : (word : List ℕ) → Option (List ℕ)
file_in word = if is_file word then Some word else None
