-- The numbers of a fault in words, each after a space.
use Rattle.std.specs.Prelude.{ℕ, List, [], ◌++◌, codes}
use Rattle.std.specs.Fmt.{decimal}
use Rattle.cfi_commands.specs.declared.words.Numbers.{Numbers}
use Rattle.cfi_commands.specs.declared.words.Numbers.TheVariants as numbers

-- no number, one or two
abbrev pub numbers_text : Numbers → List ℕ
numbers_text numbers.None = []
numbers_text (numbers.One number) = codes " " ++ decimal number
numbers_text (numbers.Two first second) = codes " " ++ decimal first ++ codes " " ++ decimal second
