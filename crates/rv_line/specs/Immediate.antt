-- The immediates of instructions, and the places of accesses.
use Rattle.std.specs.Prelude.{ℕ, ℤ, List, codes, if◌then◌else◌, Option, Some, None, option_and_then}
use Rattle.std.specs.Str.{bytes_eq}
use Rattle.rv_line.specs.declared.immediate.Place.{Place}
use Rattle.rv_line.specs.declared.statement.High.{High}
use Rattle.rv_line.specs.declared.statement.High.TheVariants as highs
use Rattle.rv_line.specs.declared.statement.Low.{Low}
use Rattle.rv_line.specs.declared.statement.Low.TheVariants as lows
use Rattle.cfi_text.specs.Names.{name_in}
use Rattle.rv_line.specs.Number.{integer_in}
use Rattle.rv_line.specs.Operand.{is_empty, cut}
use Rattle.rv_line.specs.Register.{register_in}
use Rattle.cfi_values.specs.Some.{◌>>=◌}

-- `%lo(NAME` and `%pcrel_lo(NAME`, as far as the closing parenthesis
abbrev pub low_by : (kind name : List ℕ) → Option Low
low_by kind name =
    if bytes_eq kind (codes "%lo") then Some (lows.Lo name)
    else (if bytes_eq kind (codes "%pcrel_lo") then Some (lows.PcrelLo name) else None)

-- the lower part of a name, as `%lo(NAME)` or `%pcrel_lo(NAME)` without its end
unfoldable pub low_reference_in : (front : List ℕ) → Option Low
low_reference_in front = do
  parts ← cut 40 front
  name ← name_in parts.1
  low_by parts.0 name

-- the same for upper immediates
abbrev pub high_by : (kind name : List ℕ) → Option High
high_by kind name =
    if bytes_eq kind (codes "%hi") then Some (highs.Hi name)
    else (if bytes_eq kind (codes "%pcrel_hi") then Some (highs.PcrelHi name) else None)

-- the upper part of a name, as `%hi(NAME)` or `%pcrel_hi(NAME)` without its end
unfoldable pub high_reference_in : (front : List ℕ) → Option High
high_reference_in front = do
  parts ← cut 40 front
  name ← name_in parts.1
  high_by parts.0 name

-- what stands before a closing parenthesis that ends the word
unfoldable pub closed_in : (word : List ℕ) → Option (List ℕ)
closed_in word = do
  parts ← cut 41 word
  if is_empty parts.1 then Some parts.0 else None

-- an immediate of an operation
abbrev pub low_or : Option ℤ → (word : List ℕ) → Option Low
low_or (Some number) word = Some (lows.Number number)
low_or None word = option_and_then low_reference_in (closed_in word)

-- a lower immediate: a number, or the lower part of a name
unfoldable pub low_in : (word : List ℕ) → Option Low
low_in word = low_or (integer_in word) word

-- an upper immediate
abbrev pub high_or : Option ℤ → (word : List ℕ) → Option High
high_or (Some number) word = Some (highs.Number number)
high_or None word = option_and_then high_reference_in (closed_in word)

-- an upper immediate: a number, or the upper part of a name
unfoldable pub high_in : (word : List ℕ) → Option High
high_in word = high_or (integer_in word) word

-- the register between parentheses
unfoldable pub base_in : (word : List ℕ) → Option ℕ
base_in word = do
  inner ← closed_in word
  parts ← cut 40 inner
  if is_empty parts.0 then register_in parts.1 else None

-- a place: a number and a register in parentheses, or a reference and it
unfoldable pub number_place_in : (front : List ℕ) → Option Place
number_place_in front = do
  parts ← cut 40 front
  number ← integer_in parts.0
  base ← register_in parts.1
  Some (record { imm = lows.Number number; base = base })

-- the lower part of a name and the register behind it
unfoldable pub reference_place_in : (front back : List ℕ) → Option Place
reference_place_in front back = do
  low ← low_reference_in front
  base ← base_in back
  Some (record { imm = low; base = base })

-- an offset and the register in brackets behind it
unfoldable pub place_in : (word : List ℕ) → Option Place
place_in word = do
  parts ← cut 41 word
  if is_empty parts.1 then number_place_in parts.0 else reference_place_in parts.0 parts.1
