-- Numbers of a source: decimal, with `-` or without, or `0x` and 1 to 8 hexadecimal digits of either case.
use Rattle.std.specs.Prelude.{ℕ, zero, suc, ◌+◌, ◌-◌, ◌*◌, ◌^◌, ◌&&◌, nat_le, nat_eq, ℤ, pos, negsuc, List, [], ◌∷◌, length, drop, codes, if◌then◌else◌, Option, Some, None, option_map}
use Rattle.std.specs.List.{starts_with}
use Rattle.cfi_text.specs.Decimal.{number_in, at_most, small_number_in}

-- a hexadecimal digit of either case
abbrev pub hex_digit_in : (byte : ℕ) → Option ℕ
hex_digit_in byte =
    if nat_le 48 byte && nat_le byte 57 then Some (byte - 48)
    else (if nat_le 97 byte && nat_le byte 102 then Some (byte - 87)
    else (if nat_le 65 byte && nat_le byte 70 then Some (byte - 55) else None))

-- a number with a digit more at its end, and with more digits
abbrev pub with_digit : (value : ℕ) → Option ℕ → Option ℕ
with_digit value None = None
with_digit value (Some digit) = Some (16 * value + digit)

-- a number with further hexadecimal digits
abbrev pub with_digits : Option ℕ → (digits : List ℕ) → Option ℕ
with_digits None digits = None
with_digits (Some value) [] = Some value
with_digits (Some value) (digit ∷ digits) = with_digits (with_digit value (hex_digit_in digit)) digits

-- 1 to 8 hexadecimal digits
abbrev pub hex_in : (digits : List ℕ) → Option ℕ
hex_in digits =
    if nat_le 1 (length digits) && nat_le (length digits) 8 then with_digits (Some 0) digits else None

-- the number below zero
abbrev pub negated : ℕ → ℤ
negated zero = pos 0
negated (suc n) = negsuc n

-- a number from 0 to -2^31, by the digits after its sign
abbrev pub negative_in : (digits : List ℕ) → Option ℤ
negative_in digits = option_map negated (at_most (2 ^ 31) (number_in digits))

-- a number, from -2^31 to 2^32 - 1
unfoldable pub integer_in : (word : List ℕ) → Option ℤ
integer_in word =
    if starts_with nat_eq word (codes "0x") then option_map pos (hex_in (drop 2 word))
    else (if starts_with nat_eq word (codes "-") then negative_in (drop 1 word)
    else option_map pos (small_number_in word))
