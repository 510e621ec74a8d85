-- The symbols of a source define a name once, and their values are inside of what the source makes, those of text at
-- instructions.
use Rattle.std.proofs.Common.{◌≡◌, ◌≢◌, ℕ, suc, ◌+◌, ◌%◌, ◌≤◌, false, List, [], ◌∷◌, ◌++◌, filter, length, map, Option, Some, None, slice_get, All, refl, sym, ◌∙◌, arith, append_assoc}
use Rattle.std.specs.List.{filter_map, cons_option, flat_map, sum_by, AllPairs}
use Rattle.std.specs.Str.{bytes_eq}
use Rattle.std.proofs.lemmas.Bool.{or_parts, false≢true}
use Rattle.std.proofs.lemmas.List.Elements.{All-nil, All-cons, All-append, All-filter, All-map, All-head, All-tail, filter_passes}
use Rattle.std.proofs.lemmas.List.Sums.{sum_by-cons}
use Rattle.std.proofs.lemmas.List.Kept.{AllPairs-filter, AllPairs-cons}
use Rattle.std.proofs.lemmas.Slice.Eq.{bytes_eq-Decides}
use Rattle.elf_read.specs.declared.object.Area.{Area}
use Rattle.elf_read.specs.declared.object.Area.TheVariants as areas
use Rattle.rv_line.specs.declared.line.Line.{Line}
use Rattle.rv_line.specs.declared.statement.Statement.{Statement}
use Rattle.rv_line.specs.declared.statement.Statement.TheVariants as statements
use Rattle.rv_names.specs.declared.names.Definition.{Definition}
use Rattle.rv_names.specs.declared.names.Entry.{Entry}
use Rattle.rv_names.specs.Names.{is_named, fresh, is_local, is_seen, in_order}
use Rattle.rv_asm.specs.declared.spot.Spot.{Spot}
use Rattle.rv_asm.specs.Placed.{Placed, placed_behind, placed, area_after, size_at, end_after, spot_after}
use Rattle.rv_asm.specs.Reference.{reference_of}
use Rattle.rv_asm.specs.Spot.{end_in, pair_label}
use Rattle.rv_asm.specs.Symbols.{definition_at, defining, exporting, label_says, reference_says, said_says, line_says, says_at, distinct, entry_of, table_of}
use Rattle.cfi_made_law.proofs.AsmExactLemmas.{line-four, before-le}
use Rattle.rv_asm.proofs.DistinctLemmas.{has, apart, apart-distinct}

-- ---- no name twice

abbrev AreApart : Entry → Entry → Type 0
AreApart a b = a.name ≢ b.name

-- what defines a name for others has no other name's place
abbrev pub AreNoRivals : Entry → Entry → Type 0
AreNoRivals a b = is_local a ≡ false → AreApart a b

none-same : (name : List ℕ) (names : List (List ℕ)) (said : List Entry) → has name names ≡ false
    → All (AreApart (entry_of said name)) (map (entry_of said) names)
none-same name [] said none = All-nil (AreApart (entry_of said name))
none-same name (other ∷ names) said none =
    let parts = or_parts (bytes_eq other name) (has name names) none in
    All-cons (AreApart (entry_of said name)) (entry_of said other) (map (entry_of said) names)
    (λ same. false≢true (sym parts.0 ∙ (bytes_eq-Decides other name).1 (sym same)))
    (none-same name names said parts.1)

pairs-apart : (names : List (List ℕ)) (said : List Entry) → apart names → AllPairs AreApart (map (entry_of said) names)
pairs-apart [] said are = λ i j d less inside. absurd (omega arith)
pairs-apart (name ∷ names) said are =
    AllPairs-cons AreApart (entry_of said name) (map (entry_of said) names) (none-same name names said are.0)
    (pairs-apart names said are.1)

table-apart : (said : List Entry) → AllPairs AreApart (table_of said)
table-apart said =
    let names = distinct (map (λ entry. entry.name) said) in
    pairs-apart names said (apart-distinct (map (λ entry. entry.name) said))

pairs_append : {A : Type 0} (R : A → A → Type 0) (xs ys : List A) → AllPairs R xs → AllPairs R ys
    → All (λ x. All (R x) ys) xs → AllPairs R (xs ++ ys)
pairs_append R [] ys one other cross = other
pairs_append R (x ∷ xs) ys one other cross =
    AllPairs-cons R x (xs ++ ys)
    (All-append (R x) xs ys (λ k d inside. one 0 (suc k) d (omega arith) (omega (arith, inside)))
    (All-head (λ z. All (R z) ys) x xs cross))
    (pairs_append R xs ys (λ i j d less inside. one (suc i) (suc j) d (omega (arith, less)) (omega (arith, inside))) other
    (All-tail (λ z. All (R z) ys) x xs cross))

pub order-apart : (said : List Entry) → AllPairs AreNoRivals (in_order (table_of said))
order-apart said =
    let table = table_of said in
    let local = filter_passes is_local table in
    pairs_append AreNoRivals (filter is_local table) (filter is_seen table)
    (λ i j d less inside seen. absurd (false≢true (sym seen ∙ local i d (omega (arith, less, inside)))))
    (AllPairs-filter AreNoRivals is_seen table (λ i j d less inside seen. table-apart said i j d less inside))
    (λ k d inside n e within seen. absurd (false≢true (sym seen ∙ local k d inside)))

-- ---- values

-- a place of text is at an instruction
abbrev pub IsAligned : Area → (value : ℕ) → Type 0
IsAligned areas.Text value = value % 4 ≡ 0
IsAligned areas.Data value = Unit {0}

sum-four : (ps : List Placed) → sum_by (size_at areas.Text) ps % 4 ≡ 0
sum-four [] = refl
sum-four (p ∷ ps) =
    omega (
      arith,
      sum_by-cons (size_at areas.Text) p ps,
      (line-four (area_after p.before) p.line.statement).1,
      sum-four ps,
    )

pub end-aligned : (area : Area) (before : List Line) → IsAligned area (end_after area before)
end-aligned areas.Text before = sum-four (placed before)
end-aligned areas.Data before = tt

module _ (lines : List Line) where
  abbrev pub IsInside : Option Definition → Type 0
  IsInside None = Unit {0}
  IsInside (Some definition) =
      (definition.value ≤ end_after definition.area lines) × IsAligned definition.area definition.value

  abbrev pub HasInside : Entry → Type 0
  HasInside entry = IsInside entry.definition

  label-inside : (definition : Definition) (label : Option (List ℕ)) → IsInside (Some definition)
      → All HasInside (label_says definition label)
  label-inside definition None is = All-nil HasInside
  label-inside definition (Some name) is = All-cons HasInside (defining name definition) [] is (All-nil HasInside)

  refers-inside : (o : Option (ℕ × List ℕ)) → All HasInside (reference_says o)
  refers-inside None = All-nil HasInside
  refers-inside (Some reference) = All-cons HasInside (fresh reference.1) [] tt (All-nil HasInside)

  said-inside : (spot : Spot) (definition : Definition) (o : Option Statement) → IsInside (Some definition)
      → All HasInside (said_says spot definition o)
  said-inside spot definition None is = All-nil HasInside
  said-inside spot definition (Some (statements.La rd name)) is =
      All-cons HasInside (defining (pair_label spot.pairs) definition) (fresh name ∷ []) is
      (All-cons HasInside (fresh name) [] tt (All-nil HasInside))
  said-inside spot definition (Some (statements.Globl name)) is =
      All-cons HasInside (exporting name) [] tt (All-nil HasInside)
  said-inside spot definition (Some (statements.Func name node taken)) is =
      All-cons HasInside (defining name definition) [] is (All-nil HasInside)
  said-inside spot definition (Some (statements.KindSwitch names)) is =
      All-map HasInside fresh names (λ k d inside. tt)
  said-inside spot definition (Some s) is = refers-inside (reference_of s)

  first-inside : (own : List Entry) → All HasInside own
      → IsInside (slice_get (filter_map (λ entry. entry.definition) own) 0)
  first-inside [] all = tt
  first-inside (entry ∷ own) all =
      first-from entry.definition (filter_map (λ e. e.definition) own) (All-head HasInside entry own all)
      (first-inside own (All-tail HasInside entry own all))
    where
      first-from : (o : Option Definition) (ds : List Definition) → IsInside o → IsInside (slice_get ds 0)
          → IsInside (slice_get (cons_option o ds) 0)
      first-from None ds one rest = rest
      first-from (Some d) ds one rest = one

  pub table-inside : (said : List Entry) → All HasInside said → All HasInside (table_of said)
  table-inside said all =
      All-map HasInside (entry_of said) (distinct (map (λ entry. entry.name) said))
      (λ k d inside. first-inside (filter (is_named _) said) (All-filter (is_named _) HasInside said all))

  pub said-from : (before rest : List Line) → before ++ rest ≡ lines
      → All HasInside (flat_map says_at (placed_behind before rest))
  said-from before [] is = All-nil HasInside
  said-from before (line ∷ rest) is =
      let definition = definition_at (length before + 1) (spot_after before) in
      let here : IsInside (Some definition) = end-inside (spot_after before).area is in
      All-append HasInside (line_says (length before + 1) (spot_after before) line) _
      (All-append HasInside (label_says definition line.label) _ (label-inside definition line.label here)
      (said-inside (spot_after before) definition line.statement here))
      (said-from (before ++ line ∷ []) rest (append_assoc before (line ∷ []) rest ∙ is))
    where
      end-inside : (area : Area) → before ++ line ∷ rest ≡ lines
          → (end_in (spot_after before) area ≤ end_after area lines) × IsAligned area (end_in (spot_after before) area)
      end-inside areas.Text whole =
          (before-le areas.Text before (line ∷ rest) lines whole, end-aligned areas.Text before)
      end-inside areas.Data whole = (before-le areas.Data before (line ∷ rest) lines whole, tt)
