-- A global function stands where the global symbols of text have its name.
use Rattle.std.proofs.Common.{◌≡◌, ℕ, suc, ◌<◌, ◌&&◌, ◌==◌, true, false, List, [], ◌∷◌, length, get_or, refl, sym, ap, ◌∙◌, inl, inr, arith, ◌++◌, ◌+◌, map, filter, take}
use Rattle.std.specs.List.{list_any, AllPairs}
use Rattle.std.specs.Str.{bytes_eq}
use Rattle.std.proofs.lemmas.Bool.{cases_Bool, and_parts, false≢true}
use Rattle.std.proofs.lemmas.List.{append-nil, map-append}
use Rattle.std.proofs.lemmas.List.Elements.{filter_more}
use Rattle.std.proofs.lemmas.List.Folds.{list_any_none}
use Rattle.std.proofs.lemmas.Slice.Eq.{bytes_eq-Decides}
use Rattle.elf_read.specs.declared.object.Symbol.{Symbol}
use Rattle.elf_read.specs.declared.object.Binding.{Binding}
use Rattle.elf_read.specs.declared.object.Binding.TheVariants as bindings
use Rattle.elf_read.specs.declared.object.Place.{Place}
use Rattle.elf_read.specs.declared.object.Place.TheVariants as places
use Rattle.cfi_aux.specs.declared.records.Function.{Function}
use Rattle.elf_read.specs.Sound.{is_exported, is_defined, are_rivals}
use Rattle.cfi_aux.specs.Placed.{is_global_binding, is_text, names_function, is_global}
use Rattle.cfi_place.specs.Names.{first_in}
use Rattle.cfi_place.specs.Functions.{is_global_text, globals_in, has_global}
use Rattle.cfi_place.proofs.NameLemmas.{bytes_eq-sym}

global_exported : (b : Binding) → is_global_binding b ≡ true → is_exported b ≡ true
global_exported bindings.Local h = absurd (false≢true h)
global_exported bindings.Global h = refl
global_exported bindings.Weak h = refl

text_defined : (p : Place) → is_text p ≡ true → is_defined p ≡ true
text_defined places.Undefined h = absurd (false≢true h)
text_defined places.Absolute h = refl
text_defined places.Text h = refl
text_defined places.Data h = refl

-- two global symbols of text with one name are rivals
rivals : (s t : Symbol) → is_global_text s ≡ true → is_global_text t ≡ true → s.name ≡ t.name → are_rivals s t ≡ true
rivals s t gs gt same =
    let a = and_parts (is_global_binding s.binding) (is_text s.place) gs in
    let b = and_parts (is_global_binding t.binding) (is_text t.place) gt in
    let one = global_exported s.binding a.0 in
    let two = text_defined s.place a.1 in
    let three = global_exported t.binding b.0 in
    let four = text_defined t.place b.1 in
    let name = (bytes_eq-Decides s.name t.name).1 same in
    rw (one, two, three, four, name) refl

-- what names a function is such a symbol of its name
record Named (f : Function) (t : Symbol) : Type 0 where
  global : is_global_text t ≡ true
  name : t.name ≡ f.name

named_by : (f : Function) (t : Symbol) → names_function f t ≡ true → Named f t
named_by f t h =
    let first = and_parts (is_global_text t && t.value == f.offset) (bytes_eq t.name f.name) h in
    record {
      global = (and_parts (is_global_text t) (t.value == f.offset) first.0).0;
      name = (bytes_eq-Decides t.name f.name).0 first.1;
    }

-- no other symbol names a function of the first one's name
no_other : (s : Symbol) (rest : List Symbol) (f : Function) → AllPairs (λ a b. are_rivals a b ≡ false) (s ∷ rest)
    → is_global_text s ≡ true → s.name ≡ f.name → list_any (names_function f) rest ≡ false
no_other s rest f pairs global same = list_any_none (names_function f) rest (λ i d lt.
    let apart : are_rivals s (get_or rest i d) ≡ false = pairs 0 (suc i) d (omega arith) (omega arith) in
    elim (cases_Bool (names_function f (get_or rest i d))) [
      | inl names ↦
          let named = named_by f (get_or rest i d) names in
          absurd (false≢true (sym apart ∙ rivals s (get_or rest i d) global named.global (same ∙ sym named.name)))
      | inr none ↦ none
    ])

pub tail_pairs : (s : Symbol) (rest : List Symbol) → AllPairs (λ a b. are_rivals a b ≡ false) (s ∷ rest)
    → AllPairs (λ a b. are_rivals a b ≡ false) rest
tail_pairs s rest pairs = λ i j d lt within. pairs (suc i) (suc j) d (omega arith) (omega arith)

pub has_global-is : (symbols : List Symbol) (f : Function) → AllPairs (λ a b. are_rivals a b ≡ false) symbols
    → has_global (first_in (globals_in symbols)) f ≡ is_global symbols f
has_global-is [] f pairs = refl
has_global-is (s ∷ rest) f pairs =
    let next = has_global-is rest f (tail_pairs s rest pairs) in
    elim (cases_Bool (is_global_text s)) [
      | inr other ↦ rw other next
      | inl global ↦ elim (cases_Bool (bytes_eq f.name s.name)) [
        | inl same ↦
            let is : s.name ≡ f.name = sym ((bytes_eq-Decides f.name s.name).0 same) in
            let turned : bytes_eq s.name f.name ≡ true = bytes_eq-sym s.name f.name ∙ same in
            let none = no_other s rest f pairs global is in
            elim (cases_Bool (s.value == f.offset)) [
              | inl here ↦ rw (global, same, turned, here) refl
              | inr there ↦ rw (global, same, turned, there, none) refl
            ]
        | inr different ↦
            let turned : bytes_eq s.name f.name ≡ false = bytes_eq-sym s.name f.name ∙ different in
            elim (cases_Bool (s.value == f.offset)) [
              | inl here ↦ rw (global, different, turned, here) next
              | inr there ↦ rw (global, different, turned, there) next
            ]
      ]
    ]

-- ---- in a loop

pub globals_in-other : (symbols : List Symbol) (i : ℕ) (d : Symbol) → i < length symbols
    → is_global_text (get_or symbols i d) ≡ false → globals_in (take (i + 1) symbols) ≡ globals_in (take i symbols)
globals_in-other symbols i d lt other =
    let more = filter_more is_global_text symbols i d lt in
    rw (more, other)
    (ap (map (λ (s : Symbol). (s.name, s.value))) (append-nil (filter is_global_text (take i symbols))))

pub globals_in-more : (symbols : List Symbol) (i : ℕ) (d : Symbol) → i < length symbols
    → is_global_text (get_or symbols i d) ≡ true
    → globals_in (take (i + 1) symbols)
    ≡ globals_in (take i symbols) ++ ((get_or symbols i d).name, (get_or symbols i d).value) ∷ []
globals_in-more symbols i d lt global =
    let more = filter_more is_global_text symbols i d lt in
    rw (more, global)
    (map-append (λ (s : Symbol). (s.name, s.value)) (filter is_global_text (take i symbols)) (get_or symbols i d ∷ []))
