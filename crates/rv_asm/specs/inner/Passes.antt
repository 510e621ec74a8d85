-- What the two passes over the lines of a source come to: the first one surveys them, the second one drafts, line by
-- line, or has the least fault of the first faulty line.
use Rattle.std.specs.Prelude.{ℕ, ◌+◌, nat_lt, List, [], ◌∷◌, ◌++◌, map, if◌then◌else◌, Option, Some, None, is_some, Result, Ok, Err}
use Rattle.cfi_text.specs.Lines.{numbered_lines}
use Rattle.cfi_type_table.specs.Spelling.{spelling as types_spelling}
use Rattle.cfi_aux.specs.Records.{spelling as records_spelling}
use Rattle.cfi_word.specs.declared.limits.TheConstants.{MAX_SYMBOLS}
use Rattle.elf_read.specs.declared.object.Object.{Object}
use Rattle.rv_line.specs.declared.statement.Statement.{Statement}
use Rattle.rv_names.specs.Names.{in_order, symbol_of}
use Rattle.rv_asm.specs.declared.fault.AsmFault.{AsmFault}
use Rattle.rv_asm.specs.declared.fault.AsmFault.TheVariants.{Syntax, UnknownName, Twice, Range}
use Rattle.rv_asm.specs.declared.file.File.{File}
use Rattle.rv_asm.specs.declared.row.Row.{Row}
use Rattle.rv_asm.specs.Assembled.{Fails}
use Rattle.rv_asm.specs.Fault.{is_unknown, is_twice}
use Rattle.rv_asm.specs.Made.{only_if}
use Rattle.rv_asm.specs.inner.Draft.{Draft, empty, with_statement}
use Rattle.rv_asm.specs.inner.Fault.{is_astray}
use Rattle.rv_asm.specs.inner.Survey.{Survey, nothing, with_lines}
use Rattle.cfi_values.specs.Due.{Leaves}
use Rattle.cfi_values.specs.Then.{◌>>=◌}

-- what comes of a statement, within the limits
abbrev pub or_range : (number : ℕ) → Option Draft → Result Draft AsmFault
or_range number None = Err (Range number)
or_range number (Some draft) = Ok draft

-- a draft with the statement of a row, if the names up to it are few enough, or its fault
abbrev pub within : File → Draft → Row → Statement → Result Draft AsmFault
within file draft row statement =
    if nat_lt MAX_SYMBOLS row.names then Err (Range row.number)
    else or_range row.number (with_statement file row.spot draft statement)

-- what comes of a line, by its faults in order
abbrev pub with_said : File → Draft → (rest : List Row) → Row → Statement → Result Draft AsmFault
with_said file draft rest row statement =
    if is_astray file draft rest row.spot statement then Err (Syntax row.number)
    else (if is_unknown file.names statement then Err (UnknownName row.number)
    else (if is_twice file.names row.number row.label statement then Err (Twice row.number)
    else within file draft row statement))

-- a draft with what a row says; a row that is no statement has bad syntax
abbrev pub with_row : File → Draft → (rest : List Row) → Row → Option Statement → Result Draft AsmFault
with_row file draft rest row None = Err (Syntax row.number)
with_row file draft rest row (Some statement) = with_said file draft rest row statement

-- what comes of lines, one after the other
abbrev pub with_rows : File → Draft → (rows : List Row) → Result Draft AsmFault
with_rows file draft [] = Ok draft
with_rows file draft (row ∷ rows) = with_row file draft rows row row.statement >>= λ next. with_rows file next rows

-- the object of a draft
abbrev pub object_of : File → Draft → Object
object_of file draft = record {
  text = draft.text;
  static_data = draft.data_bytes;
  symbols = map symbol_of file.names;
  relocs = draft.text_relocs ++ draft.data_relocs;
  types = only_if file.records (types_spelling draft.nodes);
  records = only_if file.records (records_spelling (record {
    functions = draft.functions;
    branches = draft.branches;
  }));
}

-- no function is open at the end, which is the line after the last
abbrev pub end_of_lines : File → (lines : ℕ) → Draft → Result Object AsmFault
end_of_lines file lines draft =
    if is_some draft.function then Err (Syntax (lines + 1)) else Ok (object_of file draft)

-- what the second pass comes to
abbrev pub drafted_by : File → (lines : ℕ) → (rows : List Row) → Result Object AsmFault
drafted_by file lines rows = with_rows file empty rows >>= end_of_lines file lines

-- what all lines know of the whole source
abbrev pub file_of : Survey → File
file_of survey = record { names = in_order survey.names; kinds = survey.kinds; records = survey.records }

-- what the second pass makes of what the first has surveyed
abbrev pub passed_by : Survey → Result Object AsmFault
passed_by survey = drafted_by (file_of survey) survey.lines survey.rows

-- what the passes over a text come to
abbrev pub passed_in : (text : List ℕ) → Result Object AsmFault
passed_in text = passed_by (with_lines nothing (numbered_lines text))

-- a call that changed a draft did what is due, unless memory ran out
abbrev pub Gives : Result (Unit {0}) AsmFault → (new : Draft) → (due : Result Draft AsmFault) → Type 0
Gives answer new due = Leaves Fails answer new due
