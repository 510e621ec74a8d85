-- Numbers, definitions and changes of names in a table.
use Rattle.std.proofs.Common.{◌≡◌, ℕ, zero, suc, ◌<◌, Bool, true, false, List, [], ◌∷◌, ◌++◌, length, set, Option, Some, None, option_map, if◌then◌else◌, slice_get, refl, ap, arith, ◌∙◌, sym, subst, ⊎_elim, is_some, get_or}
use Rattle.std.proofs.lemmas.Bool.{cases_Bool}
use Rattle.std.proofs.lemmas.Slice.Eq.{bytes_eq-Decides}
use Rattle.std.specs.Option.{option_or}
use Rattle.std.specs.Str.{bytes_eq}
use Rattle.rv_names.specs.declared.names.Definition.{Definition}
use Rattle.rv_names.specs.declared.names.Entry.{Entry}
use Rattle.rv_names.specs.Names.{is_named, number_in, definition_in, fresh, with_name, changed, defined}

option_or-none : (number : Option ℕ) → option_or number None ≡ number
option_or-none None = refl
option_or-none (Some number) = refl

-- a new name gets one
pub given : (get gives : List ℕ → Option ℕ) (name other : List ℕ) (number : ℕ) → get name ≡ None →
    gives other ≡ (if bytes_eq name other then Some number else get other) →
    gives other ≡ option_or (get other) (if bytes_eq name other then Some number else None)
given get gives name other number missing is =
    ⊎_elim (λ (same : bytes_eq name other ≡ true).
    (let none : get other ≡ None = subst (λ (o : List ℕ). get o ≡ None)
    ((bytes_eq-Decides name other).0 same) missing in
    is ∙ (rw (none, same) refl)))
    (λ (apart : bytes_eq name other ≡ false). is ∙ (rw apart (sym (option_or-none (get other)))))
    (cases_Bool (bytes_eq name other))

-- what is read at a place stands there
at_place : (table : List Entry) (i : ℕ) (entry : Entry) → i < length table → entry ≡ get_or table i entry →
    slice_get table i ≡ Some entry
at_place [] i entry h read = absurd (omega arith)
at_place (first ∷ table) zero entry h read = ap (λ (e : Entry). Some e) (sym read)
at_place (first ∷ table) (suc k) entry h read = at_place table k entry (omega arith) read

push_step : (b c : Bool) (n : ℕ) (found : Option ℕ) →
    (if b then Some 0 else option_map suc (option_or found (if c then Some n else None)))
    ≡ option_or (if b then Some 0 else option_map suc found) (if c then Some (suc n) else None)
push_step true c n found = refl
push_step false true n None = refl
push_step false false n None = refl
push_step false c n (Some number) = refl

-- an entry at the end has a number where its name is new
pub number_in-push : (table : List Entry) (entry : Entry) (name : List ℕ) →
    number_in (table ++ entry ∷ []) name
    ≡ option_or (number_in table name) (if is_named name entry then Some (length table) else None)
number_in-push [] entry name = refl
number_in-push (first ∷ table) entry name =
    rw (number_in-push table entry name)
    (push_step (is_named name first) (is_named name entry) (length table) (number_in table name))

found_step : (b : Bool) (first : Entry) (table rest : List Entry) (found : Option ℕ) →
    ((j : ℕ) → found ≡ Some j → rest ≡ table) → (i : ℕ) →
    (if b then Some 0 else option_map suc found) ≡ Some i →
    (if b then first ∷ table else first ∷ rest) ≡ first ∷ table
found_step true first table rest found more i h = refl
found_step false first table rest None more i h = cc
found_step false first table rest (Some j) more i h = ap (λ (r : List Entry). first ∷ r) (more j refl)

-- a name that is there changes nothing
pub with_name-found : (table : List Entry) (name : List ℕ) (i : ℕ) → number_in table name ≡ Some i →
    with_name table name ≡ table
with_name-found [] name i h = cc
with_name-found (first ∷ table) name i h =
    found_step (is_named name first) first table (with_name table name) (number_in table name)
    (λ j e. with_name-found table name j e) i h

missing_step : (b : Bool) (first : Entry) (table rest pushed : List Entry) (found : Option ℕ) →
    (found ≡ None → rest ≡ pushed) → (if b then Some 0 else option_map suc found) ≡ None →
    (if b then first ∷ table else first ∷ rest) ≡ first ∷ pushed
missing_step true first table rest pushed found more h = cc
missing_step false first table rest pushed None more h = ap (λ (r : List Entry). first ∷ r) (more refl)
missing_step false first table rest pushed (Some j) more h = cc

-- a new name stands at the end
pub with_name-missing : (table : List Entry) (name : List ℕ) → number_in table name ≡ None →
    with_name table name ≡ table ++ fresh name ∷ []
with_name-missing [] name h = refl
with_name-missing (first ∷ table) name h =
    missing_step (is_named name first) first table (with_name table name) (table ++ fresh name ∷ [])
    (number_in table name) (λ e. with_name-missing table name e) h

change_step : (change : Entry → Entry) (b : Bool) (first entry : Entry) (table rest : List Entry) (found : Option ℕ) →
    ((k : ℕ) → found ≡ Some k → slice_get table k ≡ Some entry → rest ≡ set table k (change entry)) →
    (i : ℕ) → (if b then Some 0 else option_map suc found) ≡ Some i → slice_get (first ∷ table) i ≡ Some entry →
    (if b then change first ∷ table else first ∷ rest) ≡ set (first ∷ table) i (change entry)
change_step change true first entry table rest found more zero h there = cc
change_step change true first entry table rest found more (suc k) h there = cc
change_step change false first entry table rest None more i h there = cc
change_step change false first entry table rest (Some j) more zero h there = cc
change_step change false first entry table rest (Some j) more (suc k) h there =
    let same : Some j ≡ Some k = cc in
    ap (λ (r : List Entry). first ∷ r) (more k same there)

-- another entry of a name stands at the name's number
pub changed-set : (change : Entry → Entry) (table : List Entry) (name : List ℕ) (i : ℕ) (entry : Entry) →
    number_in table name ≡ Some i → slice_get table i ≡ Some entry →
    changed change table name ≡ set table i (change entry)
changed-set change [] name i entry h there = cc
changed-set change (first ∷ table) name i entry h there =
    change_step change (is_named name first) first entry table (changed change table name) (number_in table name)
    (λ k e g. changed-set change table name k entry e g) i h there

-- another entry of the same name leaves all numbers
pub number_in-set : (table : List Entry) (i : ℕ) (entry other : Entry) (name : List ℕ) →
    slice_get table i ≡ Some entry → other.name ≡ entry.name →
    number_in (set table i other) name ≡ number_in table name
number_in-set [] i entry other name there same = refl
number_in-set (first ∷ table) zero entry other name there same =
    let is_first : first ≡ entry = cc in
    let named : other.name ≡ first.name = cc in
    rw named refl
number_in-set (first ∷ table) (suc k) entry other name there same =
    rw (number_in-set table k entry other name there same) refl

bound_step : (b : Bool) (found : Option ℕ) (n : ℕ) → ((k : ℕ) → found ≡ Some k → k < n) → (i : ℕ) →
    (if b then Some 0 else option_map suc found) ≡ Some i → i < suc n
bound_step true found n more zero h = omega arith
bound_step true found n more (suc k) h = cc
bound_step false None n more i h = cc
bound_step false (Some j) n more zero h = cc
bound_step false (Some j) n more (suc k) h =
    let same : Some j ≡ Some k = cc in
    let below : k < n = more k same in
    omega arith

-- a number is a place
pub number_in-bound : (table : List Entry) (name : List ℕ) (i : ℕ) → number_in table name ≡ Some i → i < length table
number_in-bound [] name i h = cc
number_in-bound (first ∷ table) name i h =
    bound_step (is_named name first) (number_in table name) (length table) (λ k e. number_in-bound table name k e) i h

define_step : (b : Bool) (first entry : Entry) (table : List Entry) (found : Option ℕ) (rest : Option Definition) →
    ((k : ℕ) → found ≡ Some k → slice_get table k ≡ Some entry → rest ≡ entry.definition) → (i : ℕ) →
    (if b then Some 0 else option_map suc found) ≡ Some i → slice_get (first ∷ table) i ≡ Some entry →
    (if b then first.definition else rest) ≡ entry.definition
define_step true first entry table found rest more zero h there =
    let is_first : first ≡ entry = cc in
    ap (λ (e : Entry). e.definition) is_first
define_step true first entry table found rest more (suc k) h there = cc
define_step false first entry table None rest more i h there = cc
define_step false first entry table (Some j) rest more zero h there = cc
define_step false first entry table (Some j) rest more (suc k) h there =
    let same : Some j ≡ Some k = cc in
    more k same there

-- the definition of a name stands at the name's number
pub definition_in-at : (table : List Entry) (name : List ℕ) (i : ℕ) (entry : Entry) →
    number_in table name ≡ Some i → slice_get table i ≡ Some entry → definition_in table name ≡ entry.definition
definition_in-at [] name i entry h there = cc
definition_in-at (first ∷ table) name i entry h there =
    define_step (is_named name first) first entry table (number_in table name) (definition_in table name)
    (λ k e g. definition_in-at table name k entry e g) i h there

undefined_step : (b : Bool) (found : Option ℕ) (here rest : Option Definition) → (found ≡ None → rest ≡ None) →
    (if b then Some 0 else option_map suc found) ≡ None → (if b then here else rest) ≡ None
undefined_step true found here rest more h = cc
undefined_step false None here rest more h = more refl
undefined_step false (Some j) here rest more h = cc

-- a name that is not there is not defined
pub definition_in-missing : (table : List Entry) (name : List ℕ) → number_in table name ≡ None →
    definition_in table name ≡ None
definition_in-missing [] name h = refl
definition_in-missing (first ∷ table) name h =
    undefined_step (is_named name first) (number_in table name) first.definition (definition_in table name)
    (λ e. definition_in-missing table name e) h

-- what is read at a name's number stands there
pub named-there : (table : List Entry) (name : List ℕ) (i : ℕ) (entry : Entry) → number_in table name ≡ Some i →
    entry ≡ get_or table i entry → slice_get table i ≡ Some entry
named-there table name i entry found read = at_place table i entry (number_in-bound table name i found) read

-- the entry that a name has, once it occurs, is changed where it stands
pub changed-at : (change : Entry → Entry) (old table : List Entry) (name : List ℕ) (i : ℕ) (entry : Entry) →
    table ≡ with_name old name → number_in table name ≡ Some i → slice_get table i ≡ Some entry →
    set table i (change entry) ≡ changed change (with_name old name) name
changed-at change old table name i entry same found there =
    sym (changed-set change table name i entry found there) ∙ ap (λ (t : List Entry). changed change t name) same

-- a definition leaves the name
same_name : (b : Bool) (definition : Definition) (entry : Entry) →
    (if b then entry else record entry { definition = Some definition }).name ≡ entry.name
same_name true definition entry = refl
same_name false definition entry = refl

pub defined-name : (definition : Definition) (entry : Entry) → (defined definition entry).name ≡ entry.name
defined-name definition entry = same_name (is_some entry.definition) definition entry

bytes_eq-same : (name : List ℕ) → bytes_eq name name ≡ true
bytes_eq-same name = (bytes_eq-Decides name name).1 refl

-- a new name's number is the number of names before it
pub number_in-new : (table : List Entry) (entry : Entry) (name : List ℕ) → number_in table name ≡ None →
    entry.name ≡ name → number_in (table ++ entry ∷ []) name ≡ Some (length table)
number_in-new table entry name missing named =
    let is : is_named name entry ≡ true = rw named (bytes_eq-same name) in
    number_in-push table entry name ∙ rw (missing, is) refl
