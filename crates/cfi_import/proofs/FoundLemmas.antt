-- Imports that are found by marks are the imports, and the places that are counted are theirs.
use Rattle.std.proofs.Common.{◌≡◌, ◌∙◌, ◌≢◌, ℕ, zero, suc, ◌+◌, ◌<◌, ◌≤◌, ◌&&◌, ◌||◌, eqb, ltb, Bool, true, false, List, [], ◌∷◌, ◌++◌, length, get_or, set, filter, map, fold, replicate, Option, Some, None, option_map, refl, sym, ap, inl, inr, arith}
use Rattle.std.specs.List.{enumerate_from, list_any, slice_get}
use Rattle.std.proofs.lemmas.Bool.{cases_Bool, eqb-true, lt-ltb}
use Rattle.std.proofs.lemmas.List.{get_or-set_same, get_or-set_other, get_or-replicate, length-set, length-replicate}
use Rattle.elf_read.specs.declared.object.Object.{Object}
use Rattle.elf_read.specs.declared.object.Symbol.{Symbol}
use Rattle.elf_read.specs.declared.object.Reloc.{Reloc}
use Rattle.cfi_import.specs.Imports.{leads, is_number, leads_to, is_wanted, is_import, imports_of, names_of, place_of}
use Rattle.cfi_import.specs.inner.Found.{led_to, mark_at, marked, marks_of, mark_of, is_found, places_from, place_in}

-- ---- marks

length-mark : (marks : List Bool) (at : Option ℕ) → length (mark_at marks at) ≡ length marks
length-mark marks None = refl
length-mark marks (Some k) =
    elim (cases_Bool (ltb k (length marks))) [
      | inl there ↦ rw there (length-set marks k true)
      | inr past ↦ rw past refl
    ]

or-false : (b : Bool) → b ≡ (b || false)
or-false true = refl
or-false false = refl

or-true : (b : Bool) → true ≡ (b || true)
or-true true = refl
or-true false = refl

or-assoc : (a b c : Bool) → ((a || b) || c) ≡ (a || (b || c))
or-assoc true b c = refl
or-assoc false b c = refl

-- a mark more
mark-one : (marks : List Bool) (at : Option ℕ) (number : ℕ) → number < length marks
    → mark_of (mark_at marks at) number ≡ (mark_of marks number || is_number number at)
mark-one marks None number lt = or-false (mark_of marks number)
mark-one marks (Some k) number lt =
    elim (cases_Bool (eqb k number)) [
      | inl same ↦
          let is : k ≡ number = eqb-true k number same in
          let there : ltb k (length marks) ≡ true = lt-ltb k (length marks) (omega (arith, is)) in
          let here : mark_of (set marks k true) k ≡ true =
          get_or-set_same marks k true false (omega (arith, is)) in
          let stands : mark_of (set marks k true) number ≡ true =
          ap (λ (n : ℕ). mark_of (set marks k true) n) (sym is) ∙ here in
          rw there (stands ∙ rw same (or-true (mark_of marks number)))
      | inr other ↦
          let apart : number ≢ k = grind (arith) in
          elim (cases_Bool (ltb k (length marks))) [
            | inl there ↦
                rw there (get_or-set_other marks k number true false apart ∙ rw other (or-false (mark_of marks number)))
            | inr past ↦ rw past (rw other (or-false (mark_of marks number)))
          ]
    ]

marked-one : (marks : List Bool) (reloc : Reloc) (number : ℕ) → number < length marks
    → mark_of (marked marks reloc) number ≡ (mark_of marks number || leads_to number reloc)
marked-one marks reloc number lt =
    elim (cases_Bool (leads reloc.kind)) [
      | inl here ↦ rw here (mark-one marks reloc.symbol number lt)
      | inr other ↦ rw other (or-false (mark_of marks number))
    ]

marks-any : (relocs : List Reloc) (marks : List Bool) (number : ℕ) → number < length marks
    → mark_of (fold marked marks relocs) number ≡ (mark_of marks number || list_any (leads_to number) relocs)
marks-any [] marks number lt = or-false (mark_of marks number)
marks-any (reloc ∷ relocs) marks number lt =
    let size = length-mark marks (led_to reloc) in
    marks-any relocs (marked marks reloc) number (omega (arith, size))
    ∙ ap (λ (b : Bool). b || list_any (leads_to number) relocs) (marked-one marks reloc number lt)
    ∙ or-assoc (mark_of marks number) (leads_to number reloc) (list_any (leads_to number) relocs)

-- the marks of a number that is there
pub marks-are : (count : ℕ) (relocs : List Reloc) (number : ℕ) → number < count
    → mark_of (marks_of count relocs) number ≡ list_any (leads_to number) relocs
marks-are count relocs number lt =
    let size = length-replicate count false in
    marks-any relocs (replicate count false) number (omega (arith, size))
    ∙ ap (λ (b : Bool). b || list_any (leads_to number) relocs) (get_or-replicate count number false false lt)

-- ---- the imports

found-from : (relocs : List Reloc) (marks : List Bool) (count n : ℕ) (symbols : List Symbol) → n + length symbols ≤ count
    → ((number : ℕ) → number < count → mark_of marks number ≡ list_any (leads_to number) relocs)
    → filter (is_found marks) (enumerate_from n symbols) ≡ filter (is_import relocs) (enumerate_from n symbols)
found-from relocs marks count n [] le are = refl
found-from relocs marks count n (s ∷ symbols) le are =
    let same : is_found marks (n, s) ≡ is_import relocs (n, s) =
    ap (λ (b : Bool). is_wanted s && b) (are n (omega arith)) in
    let rest = found-from relocs marks count (n + 1) symbols (omega arith) are in
    elim (cases_Bool (is_import relocs (n, s))) [
      | inl here ↦ rw same (rw here (ap (λ (found : List (ℕ × Symbol)). (n, s) ∷ found) rest))
      | inr other ↦ rw same (rw other rest)
    ]

pub found-are : (object : Object) → filter (is_found (marks_of (length object.symbols) object.relocs))
    (enumerate_from 0 object.symbols) ≡ imports_of object
found-are object =
    found-from object.relocs (marks_of (length object.symbols) object.relocs) (length object.symbols) 0 object.symbols
    (omega arith) (λ number lt. marks-are (length object.symbols) object.relocs number lt)

-- ---- places

-- no symbol has a number before the first
none-before : (passes : ℕ × Symbol → Bool) (number n : ℕ) (symbols : List Symbol) → number < n
    → place_of (filter passes (enumerate_from n symbols)) number ≡ None
none-before passes number n [] lt = refl
none-before passes number n (s ∷ symbols) lt =
    let rest = none-before passes number (n + 1) symbols (omega arith) in
    let apart : eqb n number ≡ false = grind (arith) in
    elim (cases_Bool (passes (n, s))) [
      | inl here ↦ rw here (rw apart (rw rest refl))
      | inr other ↦ rw other rest
    ]

twice : (place : ℕ) (o : Option ℕ) → option_map (λ i. place + 1 + i) o ≡ option_map (λ i. place + i) (option_map suc o)
twice place None = refl
twice place (Some i) = let same : place + 1 + i ≡ place + suc i = omega arith in ap (λ (n : ℕ). Some n) same

places-are-from : (passes : ℕ × Symbol → Bool) (symbols : List Symbol) (place n k : ℕ)
    → place_in (places_from passes place n symbols) k
    ≡ option_map (λ i. place + i) (place_of (filter passes (enumerate_from n symbols)) (n + k))
places-are-from passes [] place n k = refl
places-are-from passes (s ∷ symbols) place n zero =
    let here : n + 0 ≡ n = omega arith in
    let one : eqb n (n + 0) ≡ true = grind (arith) in
    let last : place ≡ place + 0 = omega arith in
    let rest = none-before passes (n + 0) (n + 1) symbols (omega arith) in
    elim (cases_Bool (passes (n, s))) [
      | inl here ↦ rw here (rw one (ap (λ (i : ℕ). Some i) last))
      | inr other ↦ rw other (rw rest refl)
    ]
places-are-from passes (s ∷ symbols) place n (suc k) =
    let apart : eqb n (n + suc k) ≡ false = grind (arith) in
    let same : n + 1 + k ≡ n + suc k = omega arith in
    elim (cases_Bool (passes (n, s))) [
      | inl here ↦
          rw here (rw apart (places-are-from passes symbols (place + 1) (n + 1) k
          ∙ twice place (place_of (filter passes (enumerate_from (n + 1) symbols)) (n + 1 + k))
          ∙ ap (λ (m : ℕ). option_map (λ i. place + i)
          (option_map suc (place_of (filter passes (enumerate_from (n + 1) symbols)) m))) same))
      | inr other ↦
          rw other (places-are-from passes symbols place (n + 1) k
          ∙ ap (λ (m : ℕ). option_map (λ i. place + i)
          (place_of (filter passes (enumerate_from (n + 1) symbols)) m)) same)
    ]

zero-more : (o : Option ℕ) → option_map (λ i. 0 + i) o ≡ o
zero-more None = refl
zero-more (Some i) = let same : 0 + i ≡ i = omega arith in ap (λ (n : ℕ). Some n) same

pub places-are : (passes : ℕ × Symbol → Bool) (symbols : List Symbol) (number : ℕ)
    → place_in (places_from passes 0 0 symbols) number
    ≡ place_of (filter passes (enumerate_from 0 symbols)) number
places-are passes symbols number =
    let same : 0 + number ≡ number = omega arith in
    places-are-from passes symbols 0 0 number
    ∙ zero-more (place_of (filter passes (enumerate_from 0 symbols)) (0 + number))
    ∙ ap (place_of (filter passes (enumerate_from 0 symbols))) same

-- ---- an object's imports, by lists that are equal to its own

pub found-by : (object : Object) (symbols : List Symbol) (relocs : List Reloc) (marks : List Bool)
    → symbols ≡ object.symbols → relocs ≡ object.relocs → marks ≡ marks_of (length symbols) relocs
    → filter (is_found marks) (enumerate_from 0 symbols) ≡ imports_of object
found-by object symbols relocs marks same others are =
    let own : marks ≡ marks_of (length object.symbols) object.relocs =
    are
    ∙ ap (λ (xs : List Symbol). marks_of (length xs) relocs) same
    ∙ ap (λ (rs : List Reloc). marks_of (length object.symbols) rs) others in
    ap (λ (xs : List Symbol). filter (is_found marks) (enumerate_from 0 xs)) same
    ∙ ap (λ (ms : List Bool). filter (is_found ms) (enumerate_from 0 object.symbols)) own
    ∙ found-are object

pub places-by : (passes : ℕ × Symbol → Bool) (symbols : List Symbol) (imports : List (ℕ × Symbol))
    (places : List (Option ℕ)) → filter passes (enumerate_from 0 symbols) ≡ imports
    → places ≡ places_from passes 0 0 symbols → (number : ℕ) → place_in places number ≡ place_of imports number
places-by passes symbols imports places are is number =
    ap (λ (ps : List (Option ℕ)). place_in ps number) is
    ∙ places-are passes symbols number
    ∙ ap (λ (xs : List (ℕ × Symbol)). place_of xs number) are
