-- The names of the symbols of a source are at most 255 bytes long.
use Rattle.std.proofs.Common.{◌%◌, ◌≡◌, ℕ, ◌+◌, ◌<◌, ◌≤◌, ◌^◌, not, List, [], ◌∷◌, ◌++◌, filter, length, map, Option, Some, None, All, refl, ◌∙◌, arith, length-append}
use Rattle.std.specs.Prelude.{codes}
use Rattle.std.specs.Fmt.{decimal}
use Rattle.std.specs.List.{flat_map, AllByRecursion}
use Rattle.std.specs.Str.{bytes_eq}
use Rattle.std.proofs.lemmas.Fmt.{length-decimal-le, decimal_by_steps}
use Rattle.std.proofs.lemmas.List.Filters.{length-filter_both}
use Rattle.std.proofs.lemmas.List.Elements.{All-weaker, All-nil, All-cons, All-head, All-tail, All-append, All-filter, All-map, All-from_recursion}
use Rattle.cfi_word.specs.declared.limits.TheConstants.{MAX_NAME}
use Rattle.elf_read.specs.declared.object.Symbol.{Symbol}
use Rattle.rv_line.specs.declared.line.Line.{Line}
use Rattle.rv_line.specs.Line.{line_in}
use Rattle.rv_line.specs.declared.statement.Statement.{Statement}
use Rattle.rv_line.specs.declared.statement.Statement.TheVariants as statements
use Rattle.rv_names.specs.declared.names.Definition.{Definition}
use Rattle.rv_names.specs.declared.names.Entry.{Entry}
use Rattle.rv_names.specs.Names.{fresh, is_local, is_seen, in_order, symbol_of}
use Rattle.rv_asm.specs.declared.spot.Spot.{Spot}
use Rattle.rv_asm.specs.Placed.{placed_behind, spot_after}
use Rattle.rv_asm.specs.Reference.{reference_of}
use Rattle.rv_asm.specs.Spot.{pair_label}
use Rattle.rv_asm.specs.Symbols.{definition_at, defining, exporting, label_says, reference_says, statement_says, said_says, line_says, says_at, said_in, distinct, entry_of, table_of, names_in}
use Rattle.rv_asm.proofs.PlacedLemmas.{pairs-le}
use Rattle.cfi_made_law.proofs.AsmOperandLemmas.{IsPlain, IsShort, RefersShort, IsFormed}
use Rattle.cfi_made_law.proofs.AsmFormLemmas.{LabelShort, SaidFormed, IsFormedLine, line-short}

-- ---- names

abbrev HasShort : Entry → Type 0
HasShort entry = IsShort entry.name

digit-plain : (n : ℕ) → n < 10 → IsPlain (48 + n)
digit-plain n few = (omega arith, omega (arith, few))

decimal-plain : (n : ℕ) → n < 2 ^ 64 → All IsPlain (decimal n)
decimal-plain n few =
    decimal_by_steps (λ n ds. All IsPlain ds)
    (λ n less. All-cons IsPlain (48 + n) [] (digit-plain n less) (All-nil IsPlain))
    (λ n ds more all. All-append IsPlain ds ((48 + n % 10) ∷ []) all
    (All-cons IsPlain (48 + n % 10) [] (digit-plain (n % 10) (omega arith)) (All-nil IsPlain))) n few

front-plain : All IsPlain (codes ".Lpc")
front-plain =
    All-cons IsPlain 46 (76 ∷ 112 ∷ 99 ∷ []) (omega arith, omega arith)
    (All-cons IsPlain 76 (112 ∷ 99 ∷ []) (omega arith, omega arith)
    (All-cons IsPlain 112 (99 ∷ []) (omega arith, omega arith)
    (All-cons IsPlain 99 [] (omega arith, omega arith) (All-nil IsPlain))))

pair-short : (n : ℕ) → n < 2 ^ 32 → IsShort (pair_label n)
pair-short n few =
    let front : length (codes ".Lpc") ≡ 4 = refl in
    let all = length-append (codes ".Lpc") (decimal n) in
    record {
      size = omega (arith, all, front, length-decimal-le 20 n (omega arith) (omega (arith, few)) (omega (arith, few)));
      some = omega (arith, all, front);
      bytes = All-append IsPlain (codes ".Lpc") (decimal n) front-plain (decimal-plain n (omega (arith, few)));
    }

label-short : (definition : Definition) (label : Option (List ℕ)) → LabelShort label
    → All HasShort (label_says definition label)
label-short definition None short = All-nil HasShort
label-short definition (Some name) short =
    All-cons HasShort (defining name definition) [] short (All-nil HasShort)

refers-short : (o : Option (ℕ × List ℕ)) → RefersShort o → All HasShort (reference_says o)
refers-short None short = All-nil HasShort
refers-short (Some reference) short = All-cons HasShort (fresh reference.1) [] short (All-nil HasShort)

statement-short : (spot : Spot) (definition : Definition) (s : Statement) → spot.pairs < 2 ^ 32 → IsFormed s
    → All HasShort (statement_says spot definition s)
statement-short spot definition (statements.La rd name) few short =
    All-cons HasShort (defining (pair_label spot.pairs) definition) (fresh name ∷ []) (pair-short spot.pairs few)
    (All-cons HasShort (fresh name) [] short (All-nil HasShort))
statement-short spot definition (statements.Globl name) few short =
    All-cons HasShort (exporting name) [] short (All-nil HasShort)
statement-short spot definition (statements.Func name node taken) few short =
    All-cons HasShort (defining name definition) [] short (All-nil HasShort)
statement-short spot definition (statements.KindSwitch names) few short =
    All-map HasShort fresh names (All-from_recursion IsShort names short.0)
statement-short spot definition (statements.Node kind fields) few short = All-nil HasShort
statement-short spot definition s few short = refers-short (reference_of s) short

said-short : (spot : Spot) (definition : Definition) (o : Option Statement) → spot.pairs < 2 ^ 32 → SaidFormed o
    → All HasShort (said_says spot definition o)
said-short spot definition None few short = All-nil HasShort
said-short spot definition (Some s) few short = statement-short spot definition s few short

line-says : (number : ℕ) (spot : Spot) (line : Line) → spot.pairs < 2 ^ 32 → IsFormedLine line
    → All HasShort (line_says number spot line)
line-says number spot line few short =
    All-append HasShort (label_says (definition_at number spot) line.label) _
    (label-short (definition_at number spot) line.label short.0)
    (said-short spot (definition_at number spot) line.statement few short.1)

said-from : (before lines : List Line) → length before + length lines < 2 ^ 32 → AllByRecursion IsFormedLine lines
    → All HasShort (flat_map says_at (placed_behind before lines))
said-from before [] few short = All-nil HasShort
said-from before (line ∷ lines) few short =
    All-append HasShort _ _
    (line-says (length before + 1) (spot_after before) line (omega (arith, pairs-le before, few)) short.0)
    (said-from (before ++ line ∷ []) lines (omega (arith, length-append before (line ∷ []), few)) short.1)

distinct-short : (names : List (List ℕ)) → All IsShort names → All IsShort (distinct names)
distinct-short [] all = All-nil IsShort
distinct-short (name ∷ names) all =
    All-cons IsShort name _ (All-head IsShort name names all)
    (All-filter (λ other. not (bytes_eq other name)) IsShort (distinct names)
    (distinct-short names (All-tail IsShort name names all)))

table-short : (said : List Entry) → All HasShort said → All HasShort (table_of said)
table-short said all =
    All-map HasShort (entry_of said) (distinct (map (λ entry. entry.name) said))
    (distinct-short (map (λ entry. entry.name) said) (All-map IsShort (λ entry. entry.name) said all))

order-short : (table : List Entry) → All HasShort table → All HasShort (in_order table)
order-short table all =
    All-append HasShort (filter is_local table) (filter is_seen table)
    (All-filter is_local HasShort table all) (All-filter is_seen HasShort table all)

pub order-length : (table : List Entry) → length (in_order table) ≡ length table
order-length table =
    length-append (filter is_local table) (filter is_seen table)
    ∙ length-filter_both is_local is_seen (λ entry. refl) table

pub lines-short : (lines : List (List ℕ)) → AllByRecursion IsFormedLine (map line_in lines)
lines-short [] = tt
lines-short (line ∷ lines) = (line-short line, lines-short lines)

pub names-good : (lines : List Line) → length lines < 2 ^ 32 → AllByRecursion IsFormedLine lines
    → All (λ entry. IsShort entry.name) (in_order (names_in lines))
names-good lines few short =
    order-short (names_in lines) (table-short (said_in lines) (said-from [] lines (omega (arith, few)) short))

pub symbols-short : (lines : List Line) → length lines < 2 ^ 32 → AllByRecursion IsFormedLine lines
    → All (λ symbol. length symbol.name ≤ MAX_NAME) (map symbol_of (in_order (names_in lines)))
symbols-short lines few short =
    All-map (λ (symbol : Symbol). length symbol.name ≤ MAX_NAME) symbol_of (in_order (names_in lines))
    (All-weaker (λ (entry : Entry). IsShort entry.name) (λ (entry : Entry). length entry.name ≤ MAX_NAME)
    (λ entry good. good.size) (in_order (names_in lines)) (names-good lines few short))
