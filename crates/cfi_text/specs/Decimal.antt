-- Decimal spellings of numbers, in ASCII: one digit or more, and no 0 ahead of another digit.
use Rattle.std.specs.Prelude.{◌≡◌, ℕ, ◌+◌, ◌-◌, ◌*◌, ◌^◌, ◌<◌, ◌&&◌, nat_lt, nat_le, List, [], ◌∷◌, length, slice_index, ⊤, if◌then◌else◌, Option, Some, None}
use Rattle.std.specs.Int.{IsInRange}
use Rattle.std.specs.Fmt.{decimal}
use Rattle.std.specs.Str.{bytes_eq}

-- each byte is one of '0' to '9'
abbrev pub AreDigits : List ℕ → Type 0
AreDigits [] = ⊤
AreDigits (c ∷ cs) = IsInRange 48 57 c × AreDigits cs

-- each digit counts by the power of ten of its place, the last one by 1
abbrev pub place_value : List ℕ → ℕ
place_value [] = 0
place_value (c ∷ cs) = (c - 48) * 10 ^ length cs + place_value cs

-- the word is the decimal spelling of the value
pub record IsDecimal (word : List ℕ) (value : ℕ) : Type 0 where
  pub some : 0 < length word
  pub digits : AreDigits word
  pub no_zero_ahead : slice_index word 0 ≡ 48 → length word ≡ 1
  pub same : place_value word ≡ value

-- the decimal spelling of a number below 2 ^ 64, as `{}` writes it
abbrev pub dec_text : ℕ → List ℕ
dec_text value = decimal value

-- the number of 64 bits of which the word is the decimal spelling
unfoldable pub number_in : (word : List ℕ) → Option ℕ
number_in word =
    if nat_lt (place_value word) (2 ^ 64) && bytes_eq word (dec_text (place_value word)) then Some (place_value word)
    else None

-- the number, where it is at most this
abbrev pub at_most : (most : ℕ) → Option ℕ → Option ℕ
at_most most None = None
at_most most (Some number) = if nat_le number most then Some number else None

-- the number of 32 bits of which the word is the decimal spelling
unfoldable pub small_number_in : (word : List ℕ) → Option ℕ
small_number_in word = at_most (2 ^ 32 - 1) (number_in word)
