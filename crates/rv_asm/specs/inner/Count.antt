-- How many names a line of a source has, at most.
use Rattle.std.specs.Prelude.{ℕ, ◌+◌, List, length, Option, Some, None}
use Rattle.rv_line.specs.declared.line.Line.{Line}
use Rattle.rv_line.specs.declared.statement.Statement.{Statement}
use Rattle.rv_line.specs.declared.statement.Statement.TheVariants as statements

-- a statement has two at most, but for a switch
abbrev pub most_of : Statement → ℕ
most_of (statements.KindSwitch names) = length names
most_of statements.Blank = 1
most_of other = 2

-- how many names a statement may say
abbrev pub said_of : Option Statement → ℕ
said_of None = 0
said_of (Some statement) = most_of statement

-- how many a label is
abbrev pub label_of : Option (List ℕ) → ℕ
label_of None = 0
label_of (Some name) = 1

-- how many a line may say
abbrev pub count_of : Line → ℕ
count_of line = label_of line.label + said_of line.statement
