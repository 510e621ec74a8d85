-- Where a jump or a branch leads, and what a word holds.
use Rattle.std.specs.Prelude.{ℕ, nat_eq, ℤ, pos, List, drop, codes, if◌then◌else◌, Option, Some, None, option_map}
use Rattle.std.specs.List.{starts_with}
use Rattle.rv_line.specs.declared.statement.Datum.{Datum}
use Rattle.rv_line.specs.declared.statement.Datum.TheVariants as data_words
use Rattle.rv_line.specs.declared.statement.Target.{Target}
use Rattle.rv_line.specs.declared.statement.Target.TheVariants as targets
use Rattle.cfi_text.specs.Decimal.{small_number_in}
use Rattle.cfi_text.specs.Names.{name_in}
use Rattle.rv_line.specs.Number.{integer_in, negated}

-- a name or an offset from the instruction: `.+N` or `.-N`
unfoldable pub target_in : (word : List ℕ) → Option Target
target_in word =
    if starts_with nat_eq word (codes ".+")
    then option_map (λ n. targets.Offset (pos n)) (small_number_in (drop 2 word))
    else (if starts_with nat_eq word (codes ".-")
    then option_map (λ n. targets.Offset (negated n)) (small_number_in (drop 2 word))
    else option_map targets.Name (name_in word))

-- a number or a name
abbrev pub datum_or : Option ℤ → (word : List ℕ) → Option Datum
datum_or (Some number) word = Some (data_words.Number number)
datum_or None word = option_map data_words.Name (name_in word)

-- a datum: a number, or a name
unfoldable pub datum_in : (word : List ℕ) → Option Datum
datum_in word = datum_or (integer_in word) word
