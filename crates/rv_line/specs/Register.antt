-- Registers by their names (RISC-V ELF psABI, integer register convention): x0 to x31, or the names of their use.
use Rattle.std.specs.Prelude.{ℕ, ◌+◌, ◌==◌, nat_lt, List, [], ◌∷◌, codes, if◌then◌else◌, Option, Some, None, option_and_then}
use Rattle.std.specs.Option.{option_or}
use Rattle.std.specs.Str.{bytes_eq}
use Rattle.cfi_text.specs.Decimal.{number_in}

-- the registers that have a name without a number
unfoldable pub named_register : (word : List ℕ) → Option ℕ
named_register word =
    if bytes_eq word (codes "zero") then Some 0
    else (if bytes_eq word (codes "ra") then Some 1
    else (if bytes_eq word (codes "sp") then Some 2
    else (if bytes_eq word (codes "gp") then Some 3
    else (if bytes_eq word (codes "tp") then Some 4
    else (if bytes_eq word (codes "fp") then Some 8 else None)))))

-- the registers of a letter: x0 to x31, a0 to a7, s0 to s11 and t0 to t6
abbrev pub below : (bound number register : ℕ) → Option ℕ → Option ℕ
below bound number register other = if nat_lt number bound then Some register else other

-- the register of a letter and a number: x, a, s or t
abbrev pub numbered_register : (letter number : ℕ) → Option ℕ
numbered_register letter number =
    if letter == 120 then below 32 number number None
    else (if letter == 97 then below 8 number (10 + number) None
    else (if letter == 115 then below 2 number (8 + number) (below 12 number (16 + number) None)
    else (if letter == 116 then below 3 number (5 + number) (below 7 number (25 + number) None)
    else None)))

-- a letter and a decimal number
abbrev pub lettered_register : (word : List ℕ) → Option ℕ
lettered_register [] = None
lettered_register (letter ∷ digits) = option_and_then (numbered_register letter) (number_in digits)

-- the register that the word names
abbrev pub register_in : (word : List ℕ) → Option ℕ
register_in word = option_or (named_register word) (lettered_register word)
