-- The faults of a line where it stands. The first faulty line decides, and of its faults the first one that stands, in
-- the order Syntax, UnknownName, Twice, Range. A function left open is a fault of the line after the last.
use Rattle.std.specs.Prelude.{ℕ, ◌+◌, ◌*◌, ◌^◌, Bool, true, false, not, ◌||◌, ◌&&◌, ◌==◌, nat_lt, nat_le, ℤ, pos, negsuc, List, [], ◌∷◌, ◌++◌, drop, length, if◌then◌else◌, Option, Some, None, is_some, is_none}
use Rattle.std.specs.List.{filter_map, list_all}
use Rattle.std.specs.Str.{bytes_eq}
use Rattle.cfi_word.specs.declared.limits.TheConstants.{MAX_DATA, MAX_RELOCS, MAX_SYMBOLS, MAX_WORDS, MAX_NODES, MAX_FUNCTIONS, MAX_BRANCHES, MAX_NAME}
use Rattle.elf_read.specs.declared.object.Area.{Area}
use Rattle.elf_read.specs.declared.object.Area.TheVariants as areas
use Rattle.cfi_aux.specs.declared.records.Function.{Function}
use Rattle.cfi_aux.specs.declared.records.Kind.{Kind}
use Rattle.rv_line.specs.declared.statement.Datum.{Datum}
use Rattle.rv_line.specs.declared.statement.Datum.TheVariants as data_words
use Rattle.rv_line.specs.declared.statement.Statement.{Statement}
use Rattle.rv_line.specs.declared.statement.Statement.TheVariants as statements
use Rattle.rv_line.specs.declared.line.Line.{Line}
use Rattle.rv_names.specs.declared.names.Definition.{Definition}
use Rattle.rv_names.specs.declared.names.Entry.{Entry}
use Rattle.rv_names.specs.Names.{definition_in, text_value}
use Rattle.rv_asm.specs.declared.fault.AsmFault.{AsmFault}
use Rattle.rv_asm.specs.declared.fault.AsmFault.TheVariants.{Syntax, UnknownName, Twice, Range}
use Rattle.rv_asm.specs.declared.file.File.{File}
use Rattle.rv_asm.specs.declared.spot.Spot.{Spot}
use Rattle.rv_asm.specs.declared.words.Words.{Words}
use Rattle.rv_asm.specs.Made.{relocs_by, nodes_of, open_after, functions_of, kind_after, branches_of}
use Rattle.rv_asm.specs.Node.{callable_in, names_nodes, node_of}
use Rattle.rv_asm.specs.Placed.{Placed, placed, spot_after}
use Rattle.rv_asm.specs.Reference.{reference_of, is_partner}
use Rattle.rv_asm.specs.Relocs.{relocs_of}
use Rattle.rv_asm.specs.Symbols.{names_in}
use Rattle.rv_asm.specs.Words.{size_of, words_of}
use Rattle.cfi_values.specs.Some.{holds}

-- the area is data
abbrev pub is_data : Area → Bool
is_data areas.Text = false
is_data areas.Data = true

-- the statement sets the kind of the next indirect jump, or is one
abbrev pub is_kind : Statement → Bool
is_kind (statements.KindCall node) = true
is_kind (statements.KindTail node) = true
is_kind statements.KindReturn = true
is_kind (statements.KindSwitch names) = true
is_kind other = false

-- the statement is an indirect jump
abbrev pub is_jump : Statement → Bool
is_jump (statements.Jalr rd rs1 imm) = true
is_jump statements.Ret = true
is_jump other = false

-- the statement of a line, if it has one, is as the test says
abbrev pub says : (Statement → Bool) → Option Statement → Bool
says test statement = holds test statement

-- an indirect jump comes before another kind
abbrev pub jump_comes : (rest : List Line) → Bool
jump_comes [] = false
jump_comes (line ∷ rest) =
    if says is_kind line.statement || says is_jump line.statement
    then says is_jump line.statement else jump_comes rest

-- the open function has no word yet
abbrev pub is_bare : (end : ℕ) → Option Function → Bool
is_bare end None = true
is_bare end (Some function) = function.offset == end

-- the datum is a name
abbrev pub is_name : Datum → Bool
is_name (data_words.Number number) = false
is_name (data_words.Name name) = true

-- what a statement finds: where it stands, the function that is open and the kind that is set there, and whether an
-- indirect jump comes before another kind
pub record Found : Type 0 where
  pub spot : Spot
  pub function : Option Function
  pub kind : Option Kind
  pub jump : Bool

-- what is found where a line stands: how much stands before it, and what it belongs to
abbrev pub found_at : File → (lines : List Line) → Placed → Found
found_at file lines at = record {
  spot = spot_after at.before;
  function = open_after file.kinds at.before;
  kind = kind_after file at.before;
  jump = jump_comes (drop (length at.before + 1) lines);
}

-- Syntax, of a line that has a statement: it may not stand there, or a node is not there
abbrev pub is_misplaced : File → Found → Statement → Bool
is_misplaced file found statements.Blank = false
is_misplaced file found statements.Text = false
is_misplaced file found statements.Data = false
is_misplaced file found (statements.Globl name) = false
is_misplaced file found (statements.Word datum) = not (is_data found.spot.area) && is_name datum
is_misplaced file found (statements.Zero number) = not (is_data found.spot.area)
is_misplaced file found (statements.Node kind fields) = not (names_nodes (length file.kinds) kind fields)
is_misplaced file found (statements.Func name node taken) =
    is_data found.spot.area || is_some found.function || is_none (callable_in file.kinds node)
is_misplaced file found statements.EndFunc = is_bare found.spot.text_end found.function
is_misplaced file found (statements.KindCall node) = is_none (callable_in file.kinds node) || not found.jump
is_misplaced file found (statements.KindTail node) = is_none (callable_in file.kinds node) || not found.jump
is_misplaced file found statements.KindReturn = not found.jump
is_misplaced file found (statements.KindSwitch names) = not found.jump
is_misplaced file found (statements.Jalr rd rs1 imm) =
    is_data found.spot.area || (file.records && is_none found.kind)
is_misplaced file found instruction = is_data found.spot.area

-- UnknownName: the file does not define an exported name, or its text does not define a name of a switch or of an
-- `auipc`
abbrev pub in_text : (table : List Entry) → (name : List ℕ) → Bool
in_text table name = is_some (text_value table name)

-- a reference to the upper part of a pair names nothing in the text
abbrev pub lacks_partner : (table : List Entry) → Option (ℕ × List ℕ) → Bool
lacks_partner table None = false
lacks_partner table (Some reference) = is_partner reference.0 && not (in_text table reference.1)

-- the statement asks for a name that is not there
abbrev pub is_unknown : (table : List Entry) → Statement → Bool
is_unknown table (statements.Globl name) = is_none (definition_in table name)
is_unknown table (statements.KindSwitch names) = not (list_all (in_text table) names)
is_unknown table statement = lacks_partner table (reference_of statement)

-- Twice: the first definition of the line's label, or of its function, is another one
abbrev pub is_elsewhere : (number : ℕ) → Option Definition → Bool
is_elsewhere number None = false
is_elsewhere number (Some definition) = not (definition.line == number)

-- the name is defined on another line
abbrev pub is_again : (table : List Entry) → (number : ℕ) → Option (List ℕ) → Bool
is_again table number None = false
is_again table number (Some name) = is_elsewhere number (definition_in table name)

-- it is the line's label
abbrev pub is_label : Option (List ℕ) → (name : List ℕ) → Bool
is_label None name = false
is_label (Some label) name = bytes_eq label name

-- the statement begins a function whose name is defined already
abbrev pub begins_again : (table : List Entry) → (number : ℕ) → (label : Option (List ℕ)) → Statement → Bool
begins_again table number label (statements.Func name node taken) =
    is_elsewhere number (definition_in table name) || is_label label name
begins_again table number label statement = false

-- the line defines a name again
abbrev pub is_twice : (table : List Entry) → (number : ℕ) → (label : Option (List ℕ)) → Statement → Bool
is_twice table number label statement = is_again table number label || begins_again table number label statement

-- how many relocations, nodes, functions and indirect jumps the lines before one make, and how many names there are up
-- to it
pub record Totals : Type 0 where
  pub relocs : ℕ
  pub nodes : ℕ
  pub functions : ℕ
  pub branches : ℕ
  pub names : ℕ

-- how many relocations, nodes, functions, branches and names there are up to the line
abbrev pub totals_at : File → Placed → Totals
totals_at file at = record {
  relocs = length (relocs_by file areas.Text at.before) + length (relocs_by file areas.Data at.before);
  nodes = length (nodes_of at.before);
  functions = length (functions_of file.kinds at.before);
  branches = length (branches_of file at.before);
  names = length (names_in (at.before ++ at.line ∷ []));
}

-- so many more relocations are within the limit
abbrev pub relocs_fit : Totals → (count : ℕ) → Bool
relocs_fit totals count = nat_le (totals.relocs + count) MAX_RELOCS

-- the words of a statement: each number is within its field, and the text and its relocations are within the limits
abbrev pub words_fit : Spot → Totals → (count : ℕ) → Option Words → Bool
words_fit spot totals count None = false
words_fit spot totals count (Some words) =
    nat_le (spot.text_end + size_of words) (4 * MAX_WORDS) && relocs_fit totals count

-- what a statement adds to the text is within the limits
abbrev pub code_fits : File → Spot → Totals → Statement → Bool
code_fits file spot totals statement =
    words_fit spot totals (length (relocs_of file.names spot statement))
    (words_of file.names spot.text_end statement)

-- an indirect jump is within the limit of the records
abbrev pub jump_fits : (records : Bool) → Totals → Bool
jump_fits records totals = not records || nat_lt totals.branches MAX_BRANCHES

-- so many more bytes of data are within the limit
abbrev pub data_fits : Spot → (count : ℕ) → Bool
data_fits spot count = nat_le (spot.data_end + count) MAX_DATA

-- a word is, in its area
abbrev pub word_fits : (own : Area) → File → Spot → Totals → Datum → Bool
word_fits areas.Text file spot totals datum = code_fits file spot totals (statements.Word datum)
word_fits areas.Data file spot totals datum =
    data_fits spot 4 && relocs_fit totals (length (relocs_of file.names spot (statements.Word datum)))

-- so many zero bytes are
abbrev pub zeros_fit : Spot → ℤ → Bool
zeros_fit spot (pos n) = data_fits spot n
zeros_fit spot (negsuc n) = false

-- no Range: what the statement adds is within the limits, and its numbers are within their fields
abbrev pub statement_fits : File → Spot → Totals → Statement → Bool
statement_fits file spot totals statements.Blank = true
statement_fits file spot totals statements.Text = true
statement_fits file spot totals statements.Data = true
statement_fits file spot totals (statements.Globl name) = true
statement_fits file spot totals (statements.Word datum) = word_fits spot.area file spot totals datum
statement_fits file spot totals (statements.Zero number) = zeros_fit spot number
statement_fits file spot totals (statements.Node kind fields) =
    is_some (node_of kind fields) && nat_lt totals.nodes MAX_NODES
statement_fits file spot totals (statements.Func name node taken) =
    nat_lt totals.functions MAX_FUNCTIONS && nat_le (length name) MAX_NAME
statement_fits file spot totals statements.EndFunc = true
statement_fits file spot totals (statements.KindCall node) = true
statement_fits file spot totals (statements.KindTail node) = true
statement_fits file spot totals statements.KindReturn = true
statement_fits file spot totals (statements.KindSwitch names) = nat_lt (length names) (2 ^ 32)
statement_fits file spot totals (statements.Jalr rd rs1 imm) =
    jump_fits file.records totals && code_fits file spot totals (statements.Jalr rd rs1 imm)
statement_fits file spot totals statements.Ret =
    jump_fits file.records totals && code_fits file spot totals statements.Ret
statement_fits file spot totals instruction = code_fits file spot totals instruction

-- the least fault of a line, if it has one
abbrev pub said_fault : File → Found → Totals → (number : ℕ) → (label : Option (List ℕ)) → Statement →
    Option AsmFault
said_fault file found totals number label statement =
    if is_misplaced file found statement then Some (Syntax number)
    else (if is_unknown file.names statement then Some (UnknownName number)
    else (if is_twice file.names number label statement then Some (Twice number)
    else (if nat_lt MAX_SYMBOLS totals.names then Some (Range number)
    else (if statement_fits file found.spot totals statement then None else Some (Range number)))))

-- the fault of a line; one that is no statement has bad syntax
abbrev pub line_fault : File → Found → Totals → (number : ℕ) → (label : Option (List ℕ)) → Option Statement →
    Option AsmFault
line_fault file found totals number label None = Some (Syntax number)
line_fault file found totals number label (Some statement) = said_fault file found totals number label statement

-- the fault of a line where it stands
abbrev pub fault_at : File → (lines : List Line) → Placed → Option AsmFault
fault_at file lines at =
    line_fault file (found_at file lines at) (totals_at file at)
    (length at.before + 1) at.line.label at.line.statement

-- no function is open behind the last line
abbrev pub end_faults : (number : ℕ) → Option Function → List AsmFault
end_faults number None = []
end_faults number (Some function) = Syntax number ∷ []

-- the faults of faulty lines, in the order of the lines
abbrev pub faults_of : File → (lines : List Line) → List AsmFault
faults_of file lines = filter_map (fault_at file lines) (placed lines)
    ++ end_faults (length lines + 1) (open_after file.kinds lines)
