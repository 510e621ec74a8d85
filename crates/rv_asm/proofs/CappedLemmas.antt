-- The names of a source, as the code counts their places: each as it is, but for a place past 2^32 - 1.
use Rattle.std.specs.Prelude.{option_and_then}
use Rattle.std.proofs.Common.{◌≡◌, ℕ, suc, ◌+◌, ◌-◌, ◌^◌, ◌≤◌, Bool, true, false, not, cond, ◌||◌, ◌&&◌, List, [], ◌∷◌, ◌++◌, filter, length, map, if◌then◌else◌, Option, Some, None, is_some, option_map, slice_get, refl, sym, ap, ◌∙◌, length-append, arith}
use Rattle.std.specs.List.{cons_option, filter_map, flat_map, list_any}
use Rattle.std.proofs.lemmas.List.{map-append}
use Rattle.elf_read.specs.declared.object.Area.{Area}
use Rattle.elf_read.specs.declared.object.Area.TheVariants as areas
use Rattle.rv_line.specs.declared.line.Line.{Line}
use Rattle.rv_line.specs.declared.statement.Statement.{Statement}
use Rattle.rv_line.specs.declared.statement.Statement.TheVariants as statements
use Rattle.rv_names.specs.declared.names.Definition.{Definition}
use Rattle.rv_names.specs.declared.names.Entry.{Entry}
use Rattle.rv_names.specs.Names.{is_named, number_in, definition_in, fresh, is_local, is_seen, in_order, text_value, value_by, value_in_text}
use Rattle.rv_asm.specs.declared.spot.Spot.{Spot}
use Rattle.rv_asm.specs.Placed.{placed_behind, pairs_after, spot_after}
use Rattle.rv_asm.specs.Reference.{reference_of}
use Rattle.rv_asm.specs.Symbols.{definition_at, label_says, reference_says, statement_says, said_says, line_says, says_at, distinct, entry_of, table_of}
use Rattle.rv_asm.specs.inner.Spot.{at_most}
use Rattle.rv_asm.proofs.PlacedLemmas.{capped, pairs-le}
use Rattle.rv_asm.proofs.TableLemmas.{entry-eq}
use Rattle.rv_asm.proofs.SurveyedLemmas.{capped_says}

abbrev pub cap_definition : Definition → Definition
cap_definition definition = record definition { value = at_most definition.value }

abbrev pub cap : Entry → Entry
cap entry = record entry { definition = option_map cap_definition entry.definition }

-- what lines say
definition-cap : (number : ℕ) (a : Area) (t d p : ℕ) →
    let spot : Spot = record { area = a; text_end = t; data_end = d; pairs = p } in
    definition_at number (capped spot) ≡ cap_definition (definition_at number spot)
definition-cap number areas.Text t d p = refl
definition-cap number areas.Data t d p = refl

label-cap : (definition : Definition) (label : Option (List ℕ)) →
    label_says (cap_definition definition) label ≡ map cap (label_says definition label)
label-cap definition None = refl
label-cap definition (Some name) = refl

fresh-cap : (names : List (List ℕ)) → map fresh names ≡ map cap (map fresh names)
fresh-cap [] = refl
fresh-cap (name ∷ names) = ap (λ (l : List Entry). fresh name ∷ l) (fresh-cap names)

reference-cap : (r : Option (ℕ × List ℕ)) → reference_says r ≡ map cap (reference_says r)
reference-cap None = refl
reference-cap (Some r) = refl

statement-cap : (spot : Spot) (definition : Definition) (s : Statement) → at_most spot.pairs ≡ spot.pairs →
    statement_says (capped spot) (cap_definition definition) s ≡ map cap (statement_says spot definition s)
statement-cap spot definition (statements.La rd name) few = rw few refl
statement-cap spot definition (statements.Globl name) few = refl
statement-cap spot definition (statements.Func name node taken) few = refl
statement-cap spot definition (statements.KindSwitch names) few = fresh-cap names
statement-cap spot definition s few = reference-cap (reference_of s)

said-cap : (spot : Spot) (definition : Definition) (s : Option Statement) → at_most spot.pairs ≡ spot.pairs →
    said_says (capped spot) (cap_definition definition) s ≡ map cap (said_says spot definition s)
said-cap spot definition None few = refl
said-cap spot definition (Some s) few = statement-cap spot definition s few

line-cap : (number : ℕ) (spot : Spot) (line : Line) → at_most spot.pairs ≡ spot.pairs →
    line_says number (capped spot) line ≡ map cap (line_says number spot line)
line-cap number spot line few =
    let definition = definition_at number spot in
    ap (λ (d : Definition). label_says d line.label ++ said_says (capped spot) d line.statement)
    (definition-cap number spot.area spot.text_end spot.data_end spot.pairs)
    ∙ ap (λ (l : List Entry). l ++ said_says (capped spot) (cap_definition definition) line.statement)
    (label-cap definition line.label)
    ∙ ap (λ (l : List Entry). map cap (label_says definition line.label) ++ l)
    (said-cap spot definition line.statement few)
    ∙ sym (map-append cap (label_says definition line.label) (said_says spot definition line.statement))

few-pairs : (before : List Line) (n : ℕ) → length before + n ≤ 2 ^ 32 - 1 → at_most (pairs_after before)
    ≡ pairs_after before
few-pairs before n h = let le = pairs-le before in omega (arith, le, h)

pub said-from : (before lines : List Line) → length before + length lines ≤ 2 ^ 32 - 1 →
    flat_map capped_says (placed_behind before lines) ≡ map cap (flat_map says_at (placed_behind before lines))
said-from before [] few = refl
said-from before (line ∷ lines) few =
    let longer = length-append before (line ∷ []) in
    let rest = flat_map says_at (placed_behind (before ++ line ∷ []) lines) in
    ap (λ (l : List Entry). l ++ flat_map capped_says (placed_behind (before ++ line ∷ []) lines))
    (line-cap (length before + 1) (spot_after before) line (few-pairs before (length (line ∷ lines)) few))
    ∙ ap (λ (l : List Entry). map cap (says_at (record { before = before; line = line })) ++ l)
    (said-from (before ++ line ∷ []) lines (omega (arith, longer, few)))
    ∙ sym (map-append cap (says_at (record { before = before; line = line })) rest)

-- a table
names-cap : (said : List Entry) → map (λ (e : Entry). e.name) (map cap said) ≡ map (λ (e : Entry). e.name) said
names-cap [] = refl
names-cap (e ∷ said) = ap (λ (l : List (List ℕ)). e.name ∷ l) (names-cap said)

map-cond : {A B : Type 0} (f : A → B) (v : Bool) (x : A) (xs : List A) (ys : List B) → ys ≡ map f xs →
    cond v (f x ∷ ys) ys ≡ map f (cond v (x ∷ xs) xs)
map-cond f true x xs ys same = ap (λ l. f x ∷ l) same
map-cond f false x xs ys same = same

own-cap : (said : List Entry) (name : List ℕ) → filter (is_named name) (map cap said)
    ≡ map cap (filter (is_named name) said)
own-cap [] name = refl
own-cap (e ∷ said) name = map-cond cap (is_named name e) e (filter (is_named name) said)
    (filter (is_named name) (map cap said)) (own-cap said name)

definitions_on : (o : Option Definition) (ds es : List Definition) → es ≡ map cap_definition ds →
    cons_option (option_map cap_definition o) es ≡ map cap_definition (cons_option o ds)
definitions_on None ds es same = same
definitions_on (Some d) ds es same = ap (λ (l : List Definition). cap_definition d ∷ l) same

definitions-cap : (own : List Entry) →
    filter_map (λ (e : Entry). e.definition) (map cap own) ≡ map cap_definition
    (filter_map (λ (e : Entry). e.definition) own)
definitions-cap [] = refl
definitions-cap (e ∷ own) = definitions_on e.definition (filter_map (λ (x : Entry). x.definition) own)
    (filter_map (λ (x : Entry). x.definition) (map cap own)) (definitions-cap own)

first-cap : (ds : List Definition) → slice_get (map cap_definition ds) 0 ≡ option_map cap_definition (slice_get ds 0)
first-cap [] = refl
first-cap (d ∷ ds) = refl

exported-cap : (own : List Entry) → list_any (λ (e : Entry). e.exported) (map cap own)
    ≡ list_any (λ (e : Entry). e.exported) own
exported-cap [] = refl
exported-cap (e ∷ own) = ap (λ (b : Bool). e.exported || b) (exported-cap own)

entry-cap : (said : List Entry) (name : List ℕ) → entry_of (map cap said) name ≡ cap (entry_of said name)
entry-cap said name =
    let own = filter (is_named name) said in
    entry-eq (ap (λ (l : List Entry). slice_get (filter_map (λ (e : Entry). e.definition) l) 0) (own-cap said name)
    ∙ ap (λ (l : List Definition). slice_get l 0) (definitions-cap own)
    ∙ first-cap (filter_map (λ (e : Entry). e.definition) own))
    (ap (list_any (λ (e : Entry). e.exported)) (own-cap said name) ∙ exported-cap own)

entries-cap : (said : List Entry) (names : List (List ℕ)) →
    map (entry_of (map cap said)) names ≡ map cap (map (entry_of said) names)
entries-cap said [] = refl
entries-cap said (name ∷ names) =
    ap (λ (e : Entry). e ∷ map (entry_of (map cap said)) names) (entry-cap said name)
    ∙ ap (λ (l : List Entry). cap (entry_of said name) ∷ l) (entries-cap said names)

pub table-cap : (said : List Entry) → table_of (map cap said) ≡ map cap (table_of said)
table-cap said =
    ap (λ (l : List (List ℕ)). map (entry_of (map cap said)) (distinct l)) (names-cap said)
    ∙ entries-cap said (distinct (map (λ (e : Entry). e.name) said))

-- in the order of symbols
defined-cap : (o : Option Definition) → is_some (option_map cap_definition o) ≡ is_some o
defined-cap None = refl
defined-cap (Some d) = refl

filter-cap : (p : Entry → Bool) → ((e : Entry) → p (cap e) ≡ p e) → (table : List Entry) →
    filter p (map cap table) ≡ map cap (filter p table)
filter-cap p same [] = refl
filter-cap p same (e ∷ table) =
    ap (λ (v : Bool). cond v (cap e ∷ filter p (map cap table)) (filter p (map cap table))) (same e)
    ∙ map-cond cap (p e) e (filter p table) (filter p (map cap table)) (filter-cap p same table)

local-cap : (e : Entry) → is_local (cap e) ≡ is_local e
local-cap e = ap (λ (v : Bool). v && not e.exported) (defined-cap e.definition)

seen-cap : (e : Entry) → is_seen (cap e) ≡ is_seen e
seen-cap e = ap not (local-cap e)

pub order-cap : (table : List Entry) → in_order (map cap table) ≡ map cap (in_order table)
order-cap table =
    ap (λ (l : List Entry). l ++ filter is_seen (map cap table)) (filter-cap is_local local-cap table)
    ∙ ap (λ (l : List Entry). map cap (filter is_local table) ++ l) (filter-cap is_seen seen-cap table)
    ∙ sym (map-append cap (filter is_local table) (filter is_seen table))

-- what is asked of a table
number_on : (v : Bool) (a b : Option ℕ) → a ≡ b → (if v then Some 0 else option_map suc a)
    ≡ (if v then Some 0 else option_map suc b)
number_on v a b same = ap (λ (o : Option ℕ). if v then Some 0 else option_map suc o) same

pub number-cap : (table : List Entry) (name : List ℕ) → number_in (map cap table) name ≡ number_in table name
number-cap [] name = refl
number-cap (e ∷ table) name = number_on (is_named name e) (number_in (map cap table) name) (number_in table name)
    (number-cap table name)

definition_on : (v : Bool) (o a b : Option Definition) → a ≡ option_map cap_definition b →
    (if v then option_map cap_definition o else a) ≡ option_map cap_definition (if v then o else b)
definition_on true o a b same = refl
definition_on false o a b same = same

pub lookup-cap : (table : List Entry) (name : List ℕ) →
    definition_in (map cap table) name ≡ option_map cap_definition (definition_in table name)
lookup-cap [] name = refl
lookup-cap (e ∷ table) name =
    definition_on (is_named name e) e.definition (definition_in (map cap table) name) (definition_in table name)
    (lookup-cap table name)

value_on : (a : Area) (value : ℕ) → value_by a (at_most value) ≡ option_map at_most (value_by a value)
value_on areas.Text value = refl
value_on areas.Data value = refl

text_on : (o : Option Definition) →
    option_and_then value_in_text (option_map cap_definition o) ≡ option_map at_most (option_and_then value_in_text o)
text_on None = refl
text_on (Some d) = value_on d.area d.value

pub value-cap : (table : List Entry) (name : List ℕ) →
    text_value (map cap table) name ≡ option_map at_most (text_value table name)
value-cap table name = ap (option_and_then value_in_text) (lookup-cap table name) ∙ text_on (definition_in table name)
