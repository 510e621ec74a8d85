-- What the statements of a source add to text and data, and how much of them stands before a line.
use Rattle.std.specs.Prelude.{ℕ, ℤ, pos, negsuc, List, ◌++◌, codes}
use Rattle.std.specs.Fmt.{decimal}
use Rattle.elf_read.specs.declared.object.Area.{Area}
use Rattle.elf_read.specs.declared.object.Area.TheVariants as areas
use Rattle.rv_line.specs.declared.statement.Statement.{Statement}
use Rattle.rv_line.specs.declared.statement.Statement.TheVariants as statements
use Rattle.rv_line.specs.declared.statement.Datum.{Datum}
use Rattle.rv_line.specs.declared.statement.Datum.TheVariants as data_words
use Rattle.rv_asm.specs.declared.spot.Spot.{Spot}
use Rattle.rv_asm.specs.Words.{size_of, low_word, li_words}

-- the bytes that a number adds to the text, where a name has no place
abbrev pub number_size : Datum → ℕ
number_size (data_words.Number number) = 4
number_size (data_words.Name name) = 0

-- the bytes that a statement adds to the text
abbrev pub text_size : Statement → ℕ
text_size statements.Blank = 0
text_size (statements.Li rd number) = size_of (li_words rd (low_word number))
text_size (statements.La rd name) = 8
text_size (statements.Call name) = 8
text_size (statements.Tail name) = 8
text_size statements.Text = 0
text_size statements.Data = 0
text_size (statements.Globl name) = 0
text_size (statements.Word datum) = number_size datum
text_size (statements.Zero number) = 0
text_size (statements.Node kind fields) = 0
text_size (statements.Func name node taken) = 0
text_size statements.EndFunc = 0
text_size (statements.KindCall node) = 0
text_size (statements.KindTail node) = 0
text_size statements.KindReturn = 0
text_size (statements.KindSwitch names) = 0
text_size instruction = 4

-- how many zeros a number asks for
abbrev pub zero_size : ℤ → ℕ
zero_size (pos n) = n
zero_size (negsuc n) = 0

-- the bytes that it adds to data
abbrev pub data_size : Statement → ℕ
data_size (statements.Word datum) = 4
data_size (statements.Zero number) = zero_size number
data_size other = 0

-- how much of an area stands before the line
abbrev pub end_in : Spot → (area : Area) → ℕ
end_in spot areas.Text = spot.text_end
end_in spot areas.Data = spot.data_end

-- how much stands in the area of a spot
abbrev pub end_of : Spot → ℕ
end_of spot = end_in spot spot.area

-- the label of the `la` of this number, from 0
abbrev pub pair_label : (number : ℕ) → List ℕ
pair_label number = codes ".Lpc" ++ decimal number
