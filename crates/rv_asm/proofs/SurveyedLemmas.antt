-- A survey of lines says where each of them stands, and their names.
use Rattle.std.proofs.Common.{◌≡◌, ℕ, ◌+◌, Bool, true, false, ◌||◌, List, [], ◌∷◌, ◌++◌, length, map, if◌then◌else◌, Option, Some, None, refl, sym, ap, ◌∙◌, append-nil, append_assoc, length-append, arith}
use Rattle.std.specs.List.{flat_map, cons_option, list_any, enumerate_from}
use Rattle.std.proofs.lemmas.List.Elements.{filter_map-append}
use Rattle.std.proofs.lemmas.List.Folds.{list_any-append}
use Rattle.rv_line.specs.declared.line.Line.{Line}
use Rattle.rv_line.specs.Line.{line_in}
use Rattle.rv_line.specs.declared.statement.NodeKind.{NodeKind}
use Rattle.rv_line.specs.declared.statement.Statement.{Statement}
use Rattle.rv_line.specs.declared.statement.Statement.TheVariants as statements
use Rattle.rv_names.specs.declared.names.Entry.{Entry}
use Rattle.rv_names.specs.Names.{fresh, with_name}
use Rattle.rv_asm.specs.declared.row.Row.{Row}
use Rattle.rv_asm.specs.declared.spot.Spot.{Spot}
use Rattle.rv_asm.specs.Reference.{reference_of}
use Rattle.rv_asm.specs.Spot.{pair_label}
use Rattle.rv_asm.specs.inner.Survey.{with_reference, with_statement, with_said, with_label, names_of, with_kind, is_idle, Survey, row_of, rows_with, with_line, with_lines}
use Rattle.rv_asm.specs.Placed.{Placed, placed, spot_after}
use Rattle.rv_asm.specs.Symbols.{definition_at, defining, label_says, reference_says, statement_says, said_says, line_says, table_of, node_kind, kinds_in}
use Rattle.rv_asm.proofs.PlacedLemmas.{capped, at_line, made-push, spot-push}
use Rattle.rv_asm.proofs.TableLemmas.{name-push, definition-push, export-push, names-all}

-- what a line says of names goes into the table
reference-said : (said : List Entry) (r : Option (ℕ × List ℕ)) →
    with_reference (table_of said) r ≡ table_of (said ++ reference_says r)
reference-said said None = ap table_of (sym (append-nil said))
reference-said said (Some r) = name-push said r.1

statement-said : (said : List Entry) (number : ℕ) (spot : Spot) (s : Statement) →
    with_statement (table_of said) number spot s ≡ table_of (said ++ statement_says spot
    (definition_at number spot) s)
statement-said said number spot (statements.La rd name) =
    let first = defining (pair_label spot.pairs) (definition_at number spot) in
    ap (λ (t : List Entry). with_name t name) (definition-push said (pair_label spot.pairs)
    (definition_at number spot))
    ∙ name-push (said ++ first ∷ []) name ∙ ap table_of (append_assoc said (first ∷ []) (fresh name ∷ []))
statement-said said number spot (statements.Globl name) = export-push said name
statement-said said number spot (statements.Func name node taken) =
    definition-push said name (definition_at number spot)
statement-said said number spot (statements.KindSwitch names) = names-all said names
statement-said said number spot s = reference-said said (reference_of s)

said-said : (said : List Entry) (number : ℕ) (spot : Spot) (s : Option Statement) →
    with_said (table_of said) number spot s ≡ table_of (said ++ said_says spot (definition_at number spot) s)
said-said said number spot None = ap table_of (sym (append-nil said))
said-said said number spot (Some s) = statement-said said number spot s

label-said : (said : List Entry) (number : ℕ) (spot : Spot) (label : Option (List ℕ)) →
    with_label (table_of said) number spot label ≡ table_of (said ++ label_says (definition_at number spot) label)
label-said said number spot None = ap table_of (sym (append-nil said))
label-said said number spot (Some name) = definition-push said name (definition_at number spot)

line-said : (said : List Entry) (number : ℕ) (spot : Spot) (line : Line) →
    names_of (table_of said) number spot line ≡ table_of (said ++ line_says number spot line)
line-said said number spot line =
    let label = label_says (definition_at number spot) line.label in
    ap (λ (t : List Entry). with_said t number spot line.statement) (label-said said number spot line.label)
    ∙ said-said (said ++ label) number spot line.statement
    ∙ ap table_of (append_assoc said label (said_says spot (definition_at number spot) line.statement))

-- what a line says by its spot as the code counts it
abbrev pub capped_says : Placed → List Entry
capped_says at = line_says (length at.before + 1) (capped (spot_after at.before)) at.line

abbrev pub capped_in : (lines : List Line) → List Entry
capped_in lines = flat_map capped_says (placed lines)

names-push : (before : List Line) (line : Line) →
    names_of (table_of (capped_in before)) (length before + 1) (capped (spot_after before)) line
    ≡ table_of (capped_in (before ++ line ∷ []))
names-push before line =
    line-said (capped_in before) (length before + 1) (capped (spot_after before)) line
    ∙ ap table_of (sym (made-push capped_says before line))

-- kinds and records
kind_on : (kinds : List NodeKind) (s : Option Statement) → with_kind kinds s ≡ kinds ++ cons_option (node_kind s) []
kind_on kinds None = sym (append-nil kinds)
kind_on kinds (Some (statements.Node kind fields)) = refl
kind_on kinds (Some s) = sym (append-nil kinds)

kinds-push : (before : List Line) (line : Line) →
    with_kind (kinds_in before) line.statement ≡ kinds_in (before ++ line ∷ [])
kinds-push before line =
    kind_on (kinds_in before) line.statement
    ∙ sym (filter_map-append (λ (l : Line). node_kind l.statement) before (line ∷ []))

or_none : (a b : Bool) → (a || b) ≡ (a || (b || false))
or_none true b = refl
or_none false true = refl
or_none false false = refl

abbrev pub records_in : List Line → Bool
records_in lines = list_any (λ line. line.records) lines

records-push : (before : List Line) (line : Line) → (records_in before || line.records)
    ≡ records_in (before ++ line ∷ [])
records-push before line =
    or_none (records_in before) line.records
    ∙ sym (list_any-append (λ (l : Line). l.records) before (line ∷ []))

-- the row of a line where it stands
abbrev pub row_at : Placed → Row
row_at at = record {
  number = length at.before + 1;
  label = at.line.label;
  statement = at.line.statement;
  spot = capped (spot_after at.before);
  names = length (table_of (capped_in (at.before ++ at.line ∷ [])));
}

-- and it has one if it says something
abbrev row_in : Placed → List Row
row_in at = if is_idle at.line then [] else row_at at ∷ []

abbrev pub rows_in : List Placed → List Row
rows_in lines = flat_map row_in lines

pushed_on : (idle : Bool) (rows : List Row) (row : Row) →
    (if idle then rows else rows ++ row ∷ []) ≡ rows ++ (if idle then [] else row ∷ [])
pushed_on true rows row = sym (append-nil rows)
pushed_on false rows row = refl

rows-push : (before : List Line) (line : Line) →
    rows_with (rows_in (placed before)) line (row_at (at_line before line))
    ≡ rows_in (placed (before ++ line ∷ []))
rows-push before line =
    pushed_on (is_idle line) (rows_in (placed before)) (row_at (at_line before line))
    ∙ sym (made-push row_in before line)

-- the survey of lines
abbrev pub survey_after : (before : List Line) → Survey
survey_after before = record {
  spot = capped (spot_after before);
  names = table_of (capped_in before);
  kinds = kinds_in before;
  records = records_in before;
  lines = length before;
  rows = rows_in (placed before);
}

survey-eq : {s t : Spot} {n m : List Entry} {k l : List NodeKind} {r q : Bool} {a b : ℕ} {x y : List Row} →
    s ≡ t → n ≡ m → k ≡ l → r ≡ q → a ≡ b → x ≡ y →
    ◌≡◌ {A = Survey} (record { spot = s; names = n; kinds = k; records = r; lines = a; rows = x })
    (record { spot = t; names = m; kinds = l; records = q; lines = b; rows = y })
survey-eq spot names kinds records lines rows = rw (spot, names, kinds, records, lines, rows) refl

row-eq : (before : List Line) (line : Line) → row_of (survey_after before) (length before + 1) line
    ≡ row_at (at_line before line)
row-eq before line =
    ap (λ (t : List Entry). record {
      number = length before + 1;
      label = line.label;
      statement = line.statement;
      spot = capped (spot_after before);
      names = length t;
    }) (names-push before line)

count-push : (before : List Line) (line : Line) → length before + 1 ≡ length (before ++ line ∷ [])
count-push before line = let more = length-append before (line ∷ []) in omega arith

survey-push : (before : List Line) (line : Line) →
    with_line (survey_after before) (length before + 1) line ≡ survey_after (before ++ line ∷ [])
survey-push before line =
    survey-eq (sym (spot-push before line)) (names-push before line) (kinds-push before line)
    (records-push before line) (count-push before line)
    (ap (rows_with (rows_in (placed before)) line) (row-eq before line) ∙ rows-push before line)

number-push : (before : List Line) (line : Line) → length before + 1 + 1 ≡ length (before ++ line ∷ []) + 1
number-push before line = ap (λ (n : ℕ). n + 1) (count-push before line)

pub surveyed-from : (before : List Line) (texts : List (List ℕ)) →
    with_lines (survey_after before) (enumerate_from (length before + 1) texts)
    ≡ survey_after (before ++ map line_in texts)
surveyed-from before [] = ap survey_after (sym (append-nil before))
surveyed-from before (text ∷ texts) =
    let line = line_in text in
    ap (λ (s : Survey). with_lines s (enumerate_from (length before + 1 + 1) texts)) (survey-push before line)
    ∙ ap (λ n. with_lines (survey_after (before ++ line ∷ [])) (enumerate_from n texts)) (number-push before line)
    ∙ surveyed-from (before ++ line ∷ []) texts
    ∙ ap survey_after (append_assoc before (line ∷ []) (map line_in texts))
