-- A source has at most one name more than bytes.
use Rattle.std.proofs.Common.{◌≡◌, ℕ, suc, ◌+◌, ◌≤◌, ◌==◌, Bool, true, false, List, [], ◌∷◌, length, if◌then◌else◌, Option, Some, None, refl, ap, arith, inl, inr}
use Rattle.std.specs.List.{enumerate_from}
use Rattle.std.proofs.lemmas.Bool.{cases_Bool}
use Rattle.cfi_text.specs.Lines.{onto_first, lines_of, numbered_lines}
use Rattle.rv_line.specs.declared.line.Line.{Line}
use Rattle.rv_line.specs.declared.statement.Statement.{Statement}
use Rattle.rv_line.specs.declared.statement.Statement.TheVariants as statements
use Rattle.rv_names.specs.declared.names.Definition.{Definition}
use Rattle.rv_names.specs.declared.names.Entry.{Entry}
use Rattle.rv_names.specs.Names.{is_named, with_name, changed, defined, exported, with_definition, with_export, with_names}
use Rattle.rv_asm.specs.declared.spot.Spot.{Spot}
use Rattle.rv_asm.specs.Reference.{reference_of}
use Rattle.rv_asm.specs.Spot.{pair_label}
use Rattle.rv_asm.specs.Symbols.{definition_at}
use Rattle.rv_asm.specs.inner.Count.{said_of, label_of, count_of}
use Rattle.rv_asm.specs.inner.Survey.{with_reference, with_statement, with_said, with_label, names_of}

-- ---- one name more

pub name_more : (table : List Entry) (name : List ℕ) → length (with_name table name) ≤ length table + 1
name_more [] name = omega arith
name_more (entry ∷ table) name = elim (cases_Bool (is_named name entry)) [
  | inl here ↦ rw here (omega arith)
  | inr there ↦ rw there (omega (arith, name_more table name))
]

changed-length : (change : Entry → Entry) (table : List Entry) (name : List ℕ)
    → length (changed change table name) ≡ length table
changed-length change [] name = refl
changed-length change (entry ∷ table) name = elim (cases_Bool (is_named name entry)) [
  | inl here ↦ rw here refl
  | inr there ↦ rw there (omega (arith, changed-length change table name))
]

pub definition_more : (table : List Entry) (name : List ℕ) (definition : Definition)
    → length (with_definition table name definition) ≤ length table + 1
definition_more table name definition =
    omega (arith, changed-length (defined definition) (with_name table name) name, name_more table name)

pub export-more : (table : List Entry) (name : List ℕ) → length (with_export table name) ≤ length table + 1
export-more table name = omega (arith, changed-length exported (with_name table name) name, name_more table name)

pub names_more : (table : List Entry) (names : List (List ℕ))
    → length (with_names table names) ≤ length table + length names
names_more table [] = omega arith
names_more table (name ∷ names) = omega (arith, name_more table name, names_more (with_name table name) names)

reference-more : (table : List Entry) (reference : Option (ℕ × List ℕ))
    → length (with_reference table reference) ≤ length table + 1
reference-more table None = omega arith
reference-more table (Some reference) = name_more table reference.1

-- ---- a line more

abbrev IsMore : (table : List Entry) (number : ℕ) → Spot → Statement → Type 0
IsMore table number spot s = length (with_statement table number spot s) ≤ length table + said_of (Some s)

statement-more : (table : List Entry) (number : ℕ) (spot : Spot) (s : Statement) → IsMore table number spot s
statement-more table number spot (statements.La rd name) =
    let label = pair_label spot.pairs in
    omega (
      arith,
      definition_more table label (definition_at number spot),
      name_more (with_definition table label (definition_at number spot)) name,
    )
statement-more table number spot (statements.Globl name) = omega (arith, export-more table name)
statement-more table number spot (statements.Func name node taken) =
    omega (arith, definition_more table name (definition_at number spot))
statement-more table number spot (statements.KindSwitch names) = names_more table names
statement-more table number spot statements.Blank = omega (arith, reference-more table (reference_of statements.Blank))
statement-more table number spot s = omega (arith, reference-more table (reference_of s))

said-more : (table : List Entry) (number : ℕ) (spot : Spot) (s : Option Statement)
    → length (with_said table number spot s) ≤ length table + said_of s
said-more table number spot None = omega arith
said-more table number spot (Some s) = statement-more table number spot s

label-more : (table : List Entry) (number : ℕ) (spot : Spot) (label : Option (List ℕ))
    → length (with_label table number spot label) ≤ length table + label_of label
label-more table number spot None = omega arith
label-more table number spot (Some name) = definition_more table name (definition_at number spot)

pub line_more : (table : List Entry) (number : ℕ) (spot : Spot) (line : Line)
    → length (names_of table number spot line) ≤ length table + count_of line
line_more table number spot line =
    omega (
      arith,
      label-more table number spot line.label,
      said-more (with_label table number spot line.label) number spot line.statement,
    )

-- ---- all lines

-- the bytes of lines, and one more for each, by which it ends
abbrev pub bytes_of : List (List ℕ) → ℕ
bytes_of [] = 0
bytes_of (line ∷ lines) = length line + 1 + bytes_of lines

abbrev pub bytes_left : List (ℕ × List ℕ) → ℕ
bytes_left [] = 0
bytes_left (line ∷ lines) = length line.1 + 1 + bytes_left lines

numbered-left : (n : ℕ) (lines : List (List ℕ)) → bytes_left (enumerate_from n lines) ≡ bytes_of lines
numbered-left n [] = refl
numbered-left n (line ∷ lines) = ap (λ (k : ℕ). length line + 1 + k) (numbered-left (n + 1) lines)

left-step : (b : Bool) (byte : ℕ) (lines : List (List ℕ)) (n : ℕ) → bytes_of lines ≤ n + 1
    → bytes_of (if b then [] ∷ lines else onto_first byte lines) ≤ suc n + 1
left-step true byte lines n h = omega (arith, h)
left-step false byte [] n h = omega arith
left-step false byte (line ∷ lines) n h = omega (arith, h)

pub lines-left : (text : List ℕ) → bytes_of (lines_of text) ≤ length text + 1
lines-left [] = omega arith
lines-left (byte ∷ rest) = left-step (byte == 10) byte (lines_of rest) (length rest) (lines-left rest)

pub text_left : (text : List ℕ) → bytes_left (numbered_lines text) ≤ length text + 1
text_left text = omega (arith, numbered-left 1 (lines_of text), lines-left text)
