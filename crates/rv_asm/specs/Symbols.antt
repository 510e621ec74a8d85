-- The names of a source, in the order in which they first occur. Each has its first definition: a label, a `.func`, or
-- the first instruction of an `la`, all of which are the offset of their line. It is exported where a `.globl` says so.
use Rattle.std.specs.Prelude.{ℕ, ◌+◌, true, false, not, List, [], ◌∷◌, ◌++◌, filter, length, map, Option, Some, None, slice_get}
use Rattle.std.specs.List.{filter_map, flat_map, list_any}
use Rattle.std.specs.Str.{bytes_eq}
use Rattle.rv_line.specs.declared.statement.NodeKind.{NodeKind}
use Rattle.rv_line.specs.declared.statement.Statement.{Statement}
use Rattle.rv_line.specs.declared.statement.Statement.TheVariants as statements
use Rattle.rv_line.specs.declared.line.Line.{Line}
use Rattle.rv_names.specs.declared.names.Definition.{Definition}
use Rattle.rv_names.specs.declared.names.Entry.{Entry}
use Rattle.rv_names.specs.Names.{is_named, fresh, in_order}
use Rattle.rv_asm.specs.declared.file.File.{File}
use Rattle.rv_asm.specs.declared.spot.Spot.{Spot}
use Rattle.rv_asm.specs.Placed.{Placed, placed, spot_after}
use Rattle.rv_asm.specs.Reference.{reference_of}
use Rattle.rv_asm.specs.Spot.{end_of, pair_label}

-- the definition of a name on a line is the line's offset
abbrev pub definition_at : (number : ℕ) → Spot → Definition
definition_at number spot = record { line = number; area = spot.area; value = end_of spot }

-- what one occurrence says of a name: that it is defined, or exported; a mere mention says nothing
abbrev pub defining : (name : List ℕ) → Definition → Entry
defining name definition = record { name = name; definition = Some definition; exported = false }

-- what exporting a name says of it
abbrev pub exporting : (name : List ℕ) → Entry
exporting name = record { name = name; definition = None; exported = true }

-- what a line says of names, in the order in which they stand there
abbrev pub label_says : Definition → Option (List ℕ) → List Entry
label_says definition None = []
label_says definition (Some name) = defining name definition ∷ []

-- what a reference says of its name
abbrev pub reference_says : Option (ℕ × List ℕ) → List Entry
reference_says None = []
reference_says (Some reference) = fresh reference.1 ∷ []

-- what a statement says of names
abbrev pub statement_says : Spot → Definition → Statement → List Entry
statement_says spot definition (statements.La rd name) = defining (pair_label spot.pairs) definition ∷ fresh name ∷ []
statement_says spot definition (statements.Globl name) = exporting name ∷ []
statement_says spot definition (statements.Func name node taken) = defining name definition ∷ []
statement_says spot definition (statements.KindSwitch names) = map fresh names
statement_says spot definition statement = reference_says (reference_of statement)

-- the same of what stands on a line
abbrev pub said_says : Spot → Definition → Option Statement → List Entry
said_says spot definition None = []
said_says spot definition (Some statement) = statement_says spot definition statement

-- what a line of this number says of names
abbrev pub line_says : (number : ℕ) → Spot → Line → List Entry
line_says number spot line =
    label_says (definition_at number spot) line.label ++ said_says spot (definition_at number spot) line.statement

-- what a line says where it stands
abbrev pub says_at : Placed → List Entry
says_at at = line_says (length at.before + 1) (spot_after at.before) at.line

-- what all lines say, in order
abbrev pub said_in : (lines : List Line) → List Entry
said_in lines = flat_map says_at (placed lines)

-- names, each once, where it first occurs
abbrev pub distinct : (names : List (List ℕ)) → List (List ℕ)
distinct [] = []
distinct (name ∷ names) = name ∷ filter (λ other. not (bytes_eq other name)) (distinct names)

-- all that is said of one name
abbrev pub entry_of : (said : List Entry) → (name : List ℕ) → Entry
entry_of said name = let own = filter (is_named name) said in record {
  name = name;
  definition = slice_get (filter_map (λ entry. entry.definition) own) 0;
  exported = list_any (λ entry. entry.exported) own;
}

-- the names that are said, in the order in which they first occur
abbrev pub table_of : (said : List Entry) → List Entry
table_of said = map (entry_of said) (distinct (map (λ entry. entry.name) said))

-- the names of lines
abbrev pub names_in : (lines : List Line) → List Entry
names_in lines = table_of (said_in lines)

-- the kinds of the type nodes, in their order
abbrev pub node_kind : Option Statement → Option NodeKind
node_kind (Some (statements.Node kind fields)) = Some kind
node_kind other = None

-- the kinds of the nodes of all lines
abbrev pub kinds_in : (lines : List Line) → List NodeKind
kinds_in lines = filter_map (λ line. node_kind line.statement) lines

-- what all lines know of the whole: the names in the order of their symbols, the kinds, and whether there are records
abbrev pub file_in : (lines : List Line) → File
file_in lines = record {
  names = in_order (names_in lines);
  kinds = kinds_in lines;
  records = list_any (λ line. line.records) lines;
}
