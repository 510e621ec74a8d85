-- A line of a source: a label and a statement, either of which may be missing. A 0x0d at its end is ignored, and `#`
-- begins a comment. A label is a name at the front and a colon straight after it; a line with a wrong statement has it
-- too.
use Rattle.std.specs.Prelude.{ℕ, Bool, true, false, List, [], ◌∷◌, Option, Some, None}
use Rattle.cfi_text.specs.Lines.{statement_of}
use Rattle.rv_line.specs.declared.statement.Statement.{Statement}
use Rattle.rv_line.specs.declared.statement.Statement.TheVariants.{Blank}
use Rattle.rv_line.specs.declared.line.Line.{Line}
use Rattle.cfi_text.specs.Words.{unblanked, first_word, after_word}
use Rattle.cfi_text.specs.Names.{name_in}
use Rattle.rv_line.specs.declared.keyword.Directive.{Directive}
use Rattle.rv_line.specs.declared.keyword.Directive.TheVariants.{Node, Func, Kind}
use Rattle.rv_line.specs.Keyword.{called, directive_text, directives}
use Rattle.rv_line.specs.Operand.{cut}
use Rattle.rv_line.specs.Statement.{form_of}

-- the statement of a text
abbrev pub words_form : (word rest : List ℕ) → Option Statement
words_form [] rest = Some Blank
words_form (byte ∷ bytes) rest = form_of (byte ∷ bytes) rest

-- the statement of a text, by its first word
abbrev pub statement_in : (text : List ℕ) → Option Statement
statement_in text = words_form (first_word text) (after_word text)

-- a directive of the records
abbrev pub is_of_records : Option Directive → Bool
is_of_records (Some Node) = true
is_of_records (Some Func) = true
is_of_records (Some Kind) = true
is_of_records other = false

-- the word is one that asks for tables of types and functions
abbrev pub begins_records : (word : List ℕ) → Bool
begins_records word = is_of_records (called directive_text directives word)

-- what a text says after a label, if one is there
abbrev pub line_of : (label : Option (List ℕ)) → (text : List ℕ) → Line
line_of label text =
    record { label = label; statement = statement_in text; records = begins_records (first_word text) }

-- a line whose label is none says nothing
abbrev pub faulty_line : (text : List ℕ) → Line
faulty_line text = record { label = None; statement = None; records = begins_records (first_word text) }

-- a line whose label is what stands before the colon, if that is a name
abbrev pub labelled_in : (label : Option (List ℕ)) → (back text : List ℕ) → Line
labelled_in None back text = faulty_line text
labelled_in (Some name) back text = line_of (Some name) back

-- a line, by what stands before and behind its colon, if it has one
abbrev pub parts_in : Option (List ℕ × List ℕ) → (text : List ℕ) → Line
parts_in None text = line_of None text
parts_in (Some parts) text = labelled_in (name_in (unblanked parts.0)) parts.1 text

-- the line that the bytes say
abbrev pub line_in : (line : List ℕ) → Line
line_in line = let text = statement_of line in parts_in (cut 58 text) text
