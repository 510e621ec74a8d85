-- What each line of a source makes where it stands, and the object that all of it is, joined in the order of the lines:
-- text and data, relocations of text and then of data, and the records.
use Rattle.std.specs.Prelude.{ℕ, ◌-◌, Bool, pos, List, [], ◌∷◌, ◌++◌, map, replicate, if◌then◌else◌, Option, Some, None, unwrap_or, option_map}
use Rattle.std.specs.List.{filter_map, flat_map, last_or}
use Rattle.elf_read.specs.declared.object.Area.{Area}
use Rattle.elf_read.specs.declared.object.Area.TheVariants as areas
use Rattle.elf_read.specs.declared.object.Object.{Object}
use Rattle.elf_read.specs.declared.object.Reloc.{Reloc}
use Rattle.cfi_type_table.specs.Node.{Node}
use Rattle.cfi_type_table.specs.Spelling.{spelling as types_spelling}
use Rattle.cfi_aux.specs.Records.{spelling as records_spelling}
use Rattle.cfi_aux.specs.declared.records.Function.{Function}
use Rattle.cfi_aux.specs.declared.records.Kind.{Kind}
use Rattle.cfi_aux.specs.declared.records.Kind.TheVariants as branches
use Rattle.rv_line.specs.declared.statement.NodeKind.{NodeKind}
use Rattle.rv_line.specs.declared.statement.Datum.{Datum}
use Rattle.rv_line.specs.declared.statement.Datum.TheVariants as data_words
use Rattle.rv_line.specs.declared.statement.Statement.{Statement}
use Rattle.rv_line.specs.declared.statement.Statement.TheVariants as statements
use Rattle.rv_line.specs.declared.line.Line.{Line}
use Rattle.rv_names.specs.declared.names.Entry.{Entry}
use Rattle.rv_names.specs.Names.{symbol_of, text_value}
use Rattle.rv_asm.specs.declared.file.File.{File}
use Rattle.rv_asm.specs.declared.spot.Spot.{Spot}
use Rattle.rv_asm.specs.declared.words.Words.{Words}
use Rattle.rv_asm.specs.Node.{callable_in, node_of}
use Rattle.rv_asm.specs.Placed.{Placed, placed, last_said, area_after, end_after, spot_after}
use Rattle.rv_asm.specs.Relocs.{relocs_of}
use Rattle.rv_asm.specs.Words.{word_bytes, words_bytes, low_word, words_of}

-- what is there, as a list
abbrev pub listed : {A : Type 0} → Option A → List A
listed None = []
listed (Some x) = x ∷ []

-- what all lines make, one after the other
abbrev pub joined : {A : Type 0} → (Placed → List A) → (lines : List Line) → List A
joined make lines = flat_map make (placed lines)

-- text: the words of a statement that stands there
abbrev pub bytes_of : Option Words → List ℕ
bytes_of None = []
bytes_of (Some words) = words_bytes words

-- the bytes that a statement in text adds to it
abbrev pub text_in : (own : Area) → File → Spot → Option Statement → List ℕ
text_in areas.Text file spot (Some statement) = bytes_of (words_of file.names spot.text_end statement)
text_in own file spot statement = []

-- what a line adds to the text where it stands
abbrev pub text_at : File → Placed → List ℕ
text_at file at = text_in (area_after at.before) file (spot_after at.before) at.line.statement

-- the text of all lines
abbrev pub text_of : File → (lines : List Line) → List ℕ
text_of file lines = joined (text_at file) lines

-- data: a number, 0 for a name, which a relocation fills in, and zeros
abbrev pub datum_word : Datum → ℕ
datum_word (data_words.Number number) = low_word number
datum_word (data_words.Name name) = 0

-- the bytes that a statement in data adds to them
abbrev pub data_in : (own : Area) → Option Statement → List ℕ
data_in areas.Data (Some (statements.Word datum)) = word_bytes (datum_word datum)
data_in areas.Data (Some (statements.Zero (pos n))) = replicate n 0
data_in own statement = []

-- what a line adds to the data where it stands
abbrev pub data_at : Placed → List ℕ
data_at at = data_in (area_after at.before) at.line.statement

-- the data of all lines
abbrev pub data_of : (lines : List Line) → List ℕ
data_of lines = joined data_at lines

-- the relocations in an area: those of the lines that stand there
abbrev pub relocs_in : (area own : Area) → File → Spot → Option Statement → List Reloc
relocs_in areas.Text areas.Text file spot (Some statement) = relocs_of file.names spot statement
relocs_in areas.Data areas.Data file spot (Some statement) = relocs_of file.names spot statement
relocs_in area own file spot statement = []

-- the relocations of an area that a line adds where it stands
abbrev pub relocs_at : Area → File → Placed → List Reloc
relocs_at area file at =
    relocs_in area (area_after at.before) file (spot_after at.before) at.line.statement

-- those of all lines
abbrev pub relocs_by : File → Area → (lines : List Line) → List Reloc
relocs_by file area lines = joined (relocs_at area file) lines

-- the type nodes
abbrev pub nodes_in : Option Statement → List Node
nodes_in (Some (statements.Node kind fields)) = listed (node_of kind fields)
nodes_in other = []

-- the nodes of all lines
abbrev pub nodes_of : (lines : List Line) → List Node
nodes_of lines = joined (λ at. nodes_in at.line.statement) lines

-- the function that a `.func` begins, of no length yet; an `.endfunc` leaves none
abbrev pub begun : (offset : ℕ) → (name : List ℕ) → (taken : Bool) → (ty : ℕ) → Function
begun offset name taken ty = record { offset = offset; length = 0; ty = ty; taken = taken; name = name }

-- what a statement makes of the function that is open: it begins one, ends it, or leaves it
abbrev pub opened : (kinds : List NodeKind) → (end : ℕ) → Option Statement → Option (Option Function)
opened kinds end (Some (statements.Func name node taken)) =
    Some (option_map (begun end name taken) (callable_in kinds node))
opened kinds end (Some statements.EndFunc) = Some None
opened kinds end other = None

-- what a line makes of it where it stands
abbrev pub opened_at : (kinds : List NodeKind) → Placed → Option (Option Function)
opened_at kinds at = opened kinds (end_after areas.Text at.before) at.line.statement

-- the one that is open behind these lines: that of the last `.func`, unless an `.endfunc` came after it
abbrev pub open_after : (kinds : List NodeKind) → (before : List Line) → Option Function
open_after kinds before = unwrap_or (last_or None (filter_map (opened_at kinds) (placed before))) None

-- the functions: each `.endfunc` ends the one that is open
abbrev pub ended : (end : ℕ) → Function → Function
ended end function = record function { length = end - function.offset }

-- the function that a statement ends
abbrev pub functions_in : (end : ℕ) → Option Function → Option Statement → List Function
functions_in end function (Some statements.EndFunc) = listed (option_map (ended end) function)
functions_in end function other = []

-- the function that a line ends where it stands
abbrev pub functions_at : (kinds : List NodeKind) → Placed → List Function
functions_at kinds at =
    functions_in (end_after areas.Text at.before) (open_after kinds at.before) at.line.statement

-- the functions of all lines
abbrev pub functions_of : (kinds : List NodeKind) → (lines : List Line) → List Function
functions_of kinds lines = joined (functions_at kinds) lines

-- where the text has the names of a switch
abbrev pub value_in : (table : List Entry) → (name : List ℕ) → ℕ
value_in table name = unwrap_or (text_value table name) 0

-- what some names stand for
abbrev pub values_in : (table : List Entry) → (names : List (List ℕ)) → List ℕ
values_in table names = map (value_in table) names

-- the kind that a `.kind` sets; an indirect jump leaves none
abbrev pub kind_set : File → Option Statement → Option (Option Kind)
kind_set file (Some (statements.KindCall node)) = Some (option_map branches.Call (callable_in file.kinds node))
kind_set file (Some (statements.KindTail node)) = Some (option_map branches.Tail (callable_in file.kinds node))
kind_set file (Some statements.KindReturn) = Some (Some branches.Return)
kind_set file (Some (statements.KindSwitch names)) = Some (Some (branches.Switch (values_in file.names names)))
kind_set file (Some (statements.Jalr rd rs1 imm)) = Some None
kind_set file (Some statements.Ret) = Some None
kind_set file other = None

-- the one that is set behind these lines: that of the last `.kind`, unless an indirect jump came after it
abbrev pub kind_after : File → (before : List Line) → Option Kind
kind_after file before = unwrap_or (last_said (λ line. kind_set file line.statement) before) None

-- the kinds of the indirect jumps: that of a return where none is set
abbrev pub branches_in : Option Kind → Option Statement → List Kind
branches_in kind (Some (statements.Jalr rd rs1 imm)) = unwrap_or kind branches.Return ∷ []
branches_in kind (Some statements.Ret) = unwrap_or kind branches.Return ∷ []
branches_in kind other = []

-- the branch that a line adds where it stands
abbrev pub branches_at : File → Placed → List Kind
branches_at file at = branches_in (kind_after file at.before) at.line.statement

-- the branches of all lines
abbrev pub branches_of : File → (lines : List Line) → List Kind
branches_of file lines = joined (branches_at file) lines

-- a source without records has no such sections
abbrev pub only_if : (records : Bool) → List ℕ → Option (List ℕ)
only_if records bytes = if records then Some bytes else None

-- the object of lines
abbrev pub object_by : File → (lines : List Line) → Object
object_by file lines = record {
  text = text_of file lines;
  static_data = data_of lines;
  symbols = map symbol_of file.names;
  relocs = relocs_by file areas.Text lines ++ relocs_by file areas.Data lines;
  types = only_if file.records (types_spelling (nodes_of lines));
  records = only_if file.records (records_spelling (record {
    functions = functions_of file.kinds lines;
    branches = branches_of file lines;
  }));
}
