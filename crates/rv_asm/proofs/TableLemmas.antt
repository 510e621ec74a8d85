-- A table of names: what one more occurrence of a name changes.
use Rattle.std.proofs.Common.{◌≡◌, ℕ, Bool, true, false, ◌||◌, List, [], ◌∷◌, ◌++◌, map, filter, if◌then◌else◌, refl, sym, ap, ◌∙◌, subst, Option, Some, None, slice_get, append-nil, append_assoc}
use Rattle.std.specs.List.{list_any, filter_map, cons_option}
use Rattle.std.specs.Option.{option_or}
use Rattle.std.specs.Str.{bytes_eq}
use Rattle.std.proofs.lemmas.Bool.{or_parts}
use Rattle.std.proofs.lemmas.List.{map-append}
use Rattle.std.proofs.lemmas.List.Elements.{filter-append, filter_map-append}
use Rattle.std.proofs.lemmas.List.Folds.{list_any-append}
use Rattle.std.proofs.lemmas.Slice.Eq.{bytes_eq-Decides}
use Rattle.rv_names.specs.declared.names.Definition.{Definition}
use Rattle.rv_names.specs.declared.names.Entry.{Entry}
use Rattle.rv_names.specs.Names.{is_named, fresh, with_name, with_definition, with_export, with_names, changed, defined, exported}
use Rattle.rv_asm.specs.Symbols.{distinct, defining, exporting, entry_of, table_of}
use Rattle.rv_asm.proofs.DistinctLemmas.{has, apart, bytes_eq-sym, apart-distinct, has-distinct, distinct-push}

abbrev names : List Entry → List (List ℕ)
names said = map (λ entry. entry.name) said

-- all that is said of one name, by the occurrences that have it
abbrev merged : (name : List ℕ) → (own : List Entry) → Entry
merged name own = record {
  name = name;
  definition = slice_get (filter_map (λ entry. entry.definition) own) 0;
  exported = list_any (λ entry. entry.exported) own;
}

own_on : (v : Bool) (e : Entry) → filter (λ (x : Entry). v) (e ∷ []) ≡ (if v then e ∷ [] else [])
own_on true e = refl
own_on false e = refl

own_same : (v : Bool) (name : List ℕ) (e : Entry) (own : List Entry) → is_named name e ≡ v →
    own ++ filter (is_named name) (e ∷ []) ≡ (if v then own ++ e ∷ [] else own)
own_same true name e own is = rw is refl
own_same false name e own is = rw is (append-nil own)

-- the occurrences of a name with one more
entry-push : (said : List Entry) (e : Entry) (name : List ℕ) (v : Bool) → is_named name e ≡ v →
    entry_of (said ++ e ∷ []) name
    ≡ (if v then merged name (filter (is_named name) said ++ e ∷ []) else entry_of said name)
entry-push said e name true is =
    ap (merged name) (filter-append (is_named name) said (e ∷ [])
    ∙ own_same true name e (filter (is_named name) said) is)
entry-push said e name false is =
    ap (merged name) (filter-append (is_named name) said (e ∷ [])
    ∙ own_same false name e (filter (is_named name) said) is)

-- nothing is said of a name that does not occur
own-none : (said : List Entry) (name : List ℕ) → has name (names said) ≡ false → filter (is_named name) said ≡ []
own-none [] name none = refl
own-none (e ∷ said) name none =
    let parts = or_parts (bytes_eq e.name name) (has name (names said)) none in
    rw parts.0 (own-none said name parts.1)

entry-none : (said : List Entry) (name : List ℕ) → has name (names said) ≡ false → entry_of said name ≡ fresh name
entry-none said name none = ap (merged name) (own-none said name none)

-- a change of one entry
module _ (name : List ℕ) (change : Entry → Entry) (said : List Entry) (e : Entry) (is : e.name ≡ name)
    (own : (other : List ℕ) → bytes_eq other name ≡ true → entry_of (said ++ e ∷ []) other
    ≡ change (entry_of said other))
    (apart_from : (other : List ℕ) → bytes_eq other name ≡ false → entry_of (said ++ e ∷ []) other
    ≡ entry_of said other)
  where
    rest_same : (ds : List (List ℕ)) → has name ds ≡ false →
        map (entry_of said) ds ≡ map (entry_of (said ++ e ∷ [])) ds
    rest_same [] none = refl
    rest_same (d ∷ ds) none =
        let parts = or_parts (bytes_eq d name) (has name ds) none in
        ap (λ (x : Entry). x ∷ map (entry_of said) ds) (sym (apart_from d parts.0))
        ∙ ap (λ (l : List Entry). entry_of (said ++ e ∷ []) d ∷ l) (rest_same ds parts.1)

    found_on : (v : Bool) (d : List ℕ) (ds : List (List ℕ)) → bytes_eq d name ≡ v → apart (d ∷ ds) →
        (has name ds ≡ true → changed change (with_name (map (entry_of said) ds) name) name
        ≡ map (entry_of (said ++ e ∷ [])) ds) →
        (v || has name ds) ≡ true →
        changed change (if v then entry_of said d ∷ map (entry_of said) ds else entry_of said d ∷ with_name
        (map (entry_of said) ds) name) name
        ≡ entry_of (said ++ e ∷ []) d ∷ map (entry_of (said ++ e ∷ [])) ds
    found_on true d ds same are more here =
        let none : has name ds ≡ false =
        subst (λ (n : List ℕ). has n ds ≡ false) ((bytes_eq-Decides d name).0 same) are.0 in
        rw same (ap (λ (x : Entry). x ∷ map (entry_of said) ds) (sym (own d same))
        ∙ ap (λ (l : List Entry). entry_of (said ++ e ∷ []) d ∷ l) (rest_same ds none))
    found_on false d ds other are more here =
        rw other (ap (λ (x : Entry). x ∷ changed change (with_name (map (entry_of said) ds) name) name)
        (sym (apart_from d other))
        ∙ ap (λ (l : List Entry). entry_of (said ++ e ∷ []) d ∷ l) (more here))

    -- a name that is there
    found : (ds : List (List ℕ)) → apart ds → has name ds ≡ true →
        changed change (with_name (map (entry_of said) ds) name) name ≡ map (entry_of (said ++ e ∷ [])) ds
    found [] are here = absurd (cc)
    found (d ∷ ds) are here = found_on (bytes_eq d name) d ds refl are (found ds are.1) here

    -- a new name
    missing : (ds : List (List ℕ)) → has name ds ≡ false →
        changed change (with_name (map (entry_of said) ds) name) name
        ≡ map (entry_of said) ds ++ change (fresh name) ∷ []
    missing [] none = rw ((bytes_eq-Decides name name).1 refl) refl
    missing (d ∷ ds) none =
        let parts = or_parts (bytes_eq d name) (has name ds) none in
        rw (parts.0, parts.0) (ap (λ (l : List Entry). entry_of said d ∷ l) (missing ds parts.1))

    names-push : names (said ++ e ∷ []) ≡ names said ++ name ∷ []
    names-push = map-append (λ (x : Entry). x.name) said (e ∷ []) ∙ ap (λ (n : List ℕ). names said ++ n ∷ []) is

    step_on : (v : Bool) → has name (names said) ≡ v →
        changed change (with_name (table_of said) name) name
        ≡ map (entry_of (said ++ e ∷ [])) (if v then distinct (names said) else distinct (names said) ++ name ∷ [])
    step_on true here =
        found (distinct (names said)) (apart-distinct (names said)) (has-distinct name (names said) ∙ here)
    step_on false none =
        let new : has name (distinct (names said)) ≡ false = has-distinct name (names said) ∙ none in
        let made : change (fresh name) ≡ entry_of (said ++ e ∷ []) name =
        ap change (sym (entry-none said name none)) ∙ sym (own name ((bytes_eq-Decides name name).1 refl)) in
        missing (distinct (names said)) new
        ∙ ap (λ (l : List Entry). l ++ change (fresh name) ∷ []) (rest_same (distinct (names said)) new)
        ∙ ap (λ (x : Entry). map (entry_of (said ++ e ∷ [])) (distinct (names said)) ++ x ∷ []) made
        ∙ sym (map-append (entry_of (said ++ e ∷ [])) (distinct (names said)) (name ∷ []))

    table-step : changed change (with_name (table_of said) name) name ≡ table_of (said ++ e ∷ [])
    table-step =
        step_on (has name (names said)) refl
        ∙ ap (map (entry_of (said ++ e ∷ []))) (sym (ap distinct names-push ∙ distinct-push (names said) name))

-- what the occurrences say with one more
first_on : (ds : List Definition) (o : Option Definition) →
    slice_get (ds ++ cons_option o []) 0 ≡ option_or (slice_get ds 0) o
first_on [] None = refl
first_on [] (Some d) = refl
first_on (d ∷ ds) o = refl

any_on : (a b : Bool) → (a || (b || false)) ≡ (a || b)
any_on true b = refl
any_on false true = refl
any_on false false = refl

-- an entry with one more occurrence
abbrev also : Entry → Entry → Entry
also e entry = record {
  name = entry.name;
  definition = option_or entry.definition e.definition;
  exported = entry.exported || e.exported;
}

pub entry-eq : {n : List ℕ} {d e : Option Definition} {x y : Bool} → d ≡ e → x ≡ y →
    ◌≡◌ {A = Entry} (record { name = n; definition = d; exported = x })
    (record { name = n; definition = e; exported = y })
entry-eq definition exported = rw (definition, exported) refl

merged-push : (name : List ℕ) (own : List Entry) (e : Entry) → merged name (own ++ e ∷ []) ≡ also e (merged name own)
merged-push name own e =
    entry-eq (ap (λ ds. slice_get ds 0) (filter_map-append (λ (x : Entry). x.definition) own (e ∷ []))
    ∙ first_on (filter_map (λ (x : Entry). x.definition) own) e.definition)
    (list_any-append (λ (x : Entry). x.exported) own (e ∷ [])
    ∙ any_on (list_any (λ (x : Entry). x.exported) own) e.exported)

pub table-push : (said : List Entry) (e : Entry) (change : Entry → Entry) →
    ((entry : Entry) → also e entry ≡ change entry) →
    changed change (with_name (table_of said) e.name) e.name ≡ table_of (said ++ e ∷ [])
table-push said e change does =
    table-step e.name change said e refl
    (λ other same. entry-push said e other true (bytes_eq-sym other e.name true same)
    ∙ merged-push other (filter (is_named other) said) e ∙ does (entry_of said other))
    (λ other apart. entry-push said e other false (bytes_eq-sym other e.name false apart))

-- the three kinds of occurrences
does_define : (definition : Definition) (n : List ℕ) (o : Option Definition) (x : Bool) →
    also (defining n definition) (record { name = n; definition = o; exported = x })
    ≡ defined definition (record { name = n; definition = o; exported = x })
does_define definition n None true = refl
does_define definition n None false = refl
does_define definition n (Some d) true = refl
does_define definition n (Some d) false = refl

does_export : (name n : List ℕ) (o : Option Definition) (x : Bool) →
    also (exporting name) (record { name = n; definition = o; exported = x })
    ≡ exported (record { name = n; definition = o; exported = x })
does_export name n None true = refl
does_export name n None false = refl
does_export name n (Some d) true = refl
does_export name n (Some d) false = refl

does_nothing : (name n : List ℕ) (o : Option Definition) (x : Bool) →
    also (fresh name) (record { name = n; definition = o; exported = x })
    ≡ record { name = n; definition = o; exported = x }
does_nothing name n None true = refl
does_nothing name n None false = refl
does_nothing name n (Some d) true = refl
does_nothing name n (Some d) false = refl

unchanged_on : (v : Bool) (e : Entry) (table rest : List Entry) → rest ≡ table →
    (if v then e ∷ table else e ∷ rest) ≡ e ∷ table
unchanged_on true e table rest same = refl
unchanged_on false e table rest same = ap (λ (l : List Entry). e ∷ l) same

unchanged : (table : List Entry) (name : List ℕ) → changed (λ entry. entry) table name ≡ table
unchanged [] name = refl
unchanged (e ∷ table) name =
    unchanged_on (is_named name e) e table (changed (λ entry. entry) table name) (unchanged table name)

pub name-push : (said : List Entry) (name : List ℕ) → with_name (table_of said) name
    ≡ table_of (said ++ fresh name ∷ [])
name-push said name =
    sym (unchanged (with_name (table_of said) name) name)
    ∙ table-push said (fresh name) (λ entry. entry) (λ e. does_nothing name e.name e.definition e.exported)

pub definition-push : (said : List Entry) (name : List ℕ) (definition : Definition) →
    with_definition (table_of said) name definition ≡ table_of (said ++ defining name definition ∷ [])
definition-push said name definition =
    table-push said (defining name definition) (defined definition)
    (λ e. does_define definition e.name e.definition e.exported)

pub export-push : (said : List Entry) (name : List ℕ) →
    with_export (table_of said) name ≡ table_of (said ++ exporting name ∷ [])
export-push said name =
    table-push said (exporting name) exported (λ e. does_export name e.name e.definition e.exported)

pub names-all : (said : List Entry) (names : List (List ℕ)) →
    with_names (table_of said) names ≡ table_of (said ++ map fresh names)
names-all said [] = ap table_of (sym (append-nil said))
names-all said (name ∷ names) =
    ap (λ (t : List Entry). with_names t names) (name-push said name)
    ∙ names-all (said ++ fresh name ∷ []) names
    ∙ ap table_of (append_assoc said (fresh name ∷ []) (map fresh names))
