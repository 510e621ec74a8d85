-- What a first reading of a source gives: where each line that says something stands, how many lines there are, the
-- names in the order in which they first occur with their definitions, the kinds of its type nodes, and whether it has
-- records.
use Rattle.std.specs.Prelude.{ℕ, Bool, true, false, ◌||◌, ◌&&◌, List, [], ◌∷◌, ◌++◌, length, if◌then◌else◌, Option, Some, None, is_none}
use Rattle.cfi_values.specs.Some.{holds}
use Rattle.rv_line.specs.declared.statement.NodeKind.{NodeKind}
use Rattle.rv_line.specs.declared.statement.Statement.{Statement}
use Rattle.rv_line.specs.declared.statement.Statement.TheVariants as statements
use Rattle.rv_line.specs.declared.line.Line.{Line}
use Rattle.rv_line.specs.Line.{line_in}
use Rattle.rv_names.specs.declared.names.Entry.{Entry}
use Rattle.rv_asm.specs.declared.spot.Spot.{Spot}
use Rattle.rv_asm.specs.declared.row.Row.{Row}
use Rattle.rv_names.specs.Names.{with_name, with_definition, with_export, with_names}
use Rattle.rv_asm.specs.Reference.{reference_of}
use Rattle.rv_asm.specs.Spot.{pair_label}
use Rattle.rv_asm.specs.Symbols.{definition_at}
use Rattle.rv_asm.specs.inner.Spot.{start, after_line}

-- the names with those of a statement
abbrev pub with_reference : (table : List Entry) → Option (ℕ × List ℕ) → List Entry
with_reference table None = table
with_reference table (Some reference) = with_name table reference.1

-- the names with those of a statement
abbrev pub with_statement : (table : List Entry) → (number : ℕ) → Spot → Statement → List Entry
with_statement table number spot (statements.La rd name) =
    with_name (with_definition table (pair_label spot.pairs) (definition_at number spot)) name
with_statement table number spot (statements.Globl name) = with_export table name
with_statement table number spot (statements.Func name node taken) =
    with_definition table name (definition_at number spot)
with_statement table number spot (statements.KindSwitch names) = with_names table names
with_statement table number spot statement = with_reference table (reference_of statement)

-- the names with those of what stands on a line
abbrev pub with_said : (table : List Entry) → (number : ℕ) → Spot → Option Statement → List Entry
with_said table number spot None = table
with_said table number spot (Some statement) = with_statement table number spot statement

-- and with its label before them
abbrev pub with_label : (table : List Entry) → (number : ℕ) → Spot → Option (List ℕ) → List Entry
with_label table number spot None = table
with_label table number spot (Some name) = with_definition table name (definition_at number spot)

-- the names with those of a line
abbrev pub names_of : (table : List Entry) → (number : ℕ) → Spot → Line → List Entry
names_of table number spot line =
    with_said (with_label table number spot line.label) number spot line.statement

-- the kinds of nodes with that of a line
abbrev pub with_kind : (kinds : List NodeKind) → Option Statement → List NodeKind
with_kind kinds (Some (statements.Node kind fields)) = kinds ++ kind ∷ []
with_kind kinds other = kinds

-- a line that says nothing has no row: no label, and nothing where a statement stands
abbrev pub is_blank : Statement → Bool
is_blank statements.Blank = true
is_blank other = false

-- the line says nothing
abbrev pub is_idle : Line → Bool
is_idle line = holds is_blank line.statement && is_none line.label

-- what the lines so far have said; the lines count up to the last one
pub record Survey : Type 0 where
  pub spot : Spot
  pub names : List Entry
  pub kinds : List NodeKind
  pub records : Bool
  pub lines : ℕ
  pub rows : List Row

-- nothing was read yet
abbrev pub nothing : Survey
nothing = record { spot = start; names = []; kinds = []; records = false; lines = 0; rows = [] }

-- a line with where it stands, and how many names there are by then
abbrev pub row_of : Survey → (number : ℕ) → Line → Row
row_of survey number line = record {
  number = number;
  label = line.label;
  statement = line.statement;
  spot = survey.spot;
  names = length (names_of survey.names number survey.spot line);
}

-- the rows with that of a line, if it says something
abbrev pub rows_with : (rows : List Row) → Line → Row → List Row
rows_with rows line row = if is_idle line then rows else rows ++ row ∷ []

-- what the lines have said, with what a line says of the whole
abbrev pub with_noted : Survey → (number : ℕ) → Line → Survey
with_noted survey number line = record survey {
  names = names_of survey.names number survey.spot line;
  kinds = with_kind survey.kinds line.statement;
  records = survey.records || line.records;
}

-- and with the line itself
abbrev pub with_kept : Survey → (number : ℕ) → Line → Survey
with_kept survey number line = record survey {
  spot = after_line survey.spot line.statement;
  lines = number;
  rows = rows_with survey.rows line (record {
    number = number;
    label = line.label;
    statement = line.statement;
    spot = survey.spot;
    names = length survey.names;
  });
}

-- a survey with one line more
abbrev pub with_line : Survey → (number : ℕ) → Line → Survey
with_line survey number line = record {
  spot = after_line survey.spot line.statement;
  names = names_of survey.names number survey.spot line;
  kinds = with_kind survey.kinds line.statement;
  records = survey.records || line.records;
  lines = number;
  rows = rows_with survey.rows line (row_of survey number line);
}

-- a survey with further lines
abbrev pub with_lines : Survey → (lines : List (ℕ × List ℕ)) → Survey
with_lines survey [] = survey
with_lines survey (line ∷ lines) = with_lines (with_line survey line.0 (line_in line.1)) lines
