-- Hexadecimal spellings, in ASCII and lower case.
use Rattle.std.specs.Prelude.{◌≡◌, ℕ, zero, suc, ◌+◌, ◌/◌, ◌%◌, List, [], ◌∷◌, ◌++◌, take, flat_map, nat_lt, if◌then◌else◌}

-- the byte of a digit below 16: '0' to '9', then 'a' to 'f'
abbrev pub hex_digit : ℕ → ℕ
hex_digit d = if nat_lt d 10 then 48 + d else 87 + d

-- the last `count` digits of a number
abbrev pub hex_digits : (count : ℕ) → (value : ℕ) → List ℕ
hex_digits zero value = []
hex_digits (suc count) value = hex_digits count (value / 16) ++ hex_digit (value % 16) ∷ []

-- a number below 2 ^ 32 in eight digits
abbrev pub hex8_text : ℕ → List ℕ
hex8_text value = hex_digits 8 value

-- bytes in two digits each
abbrev pub hex_text : List ℕ → List ℕ
hex_text bytes = flat_map (hex_digits 2) bytes

-- the text grew by the digits of some of the bytes, from the first on
abbrev pub AppendsHexPrefix : (before after bytes : List ℕ) → Type 0
AppendsHexPrefix before after bytes = (k : ℕ) × (after ≡ before ++ hex_text (take k bytes))
