-- What joined modules make breaks no rule.
use Rattle.std.proofs.Common.{◌≡◌, ◌∙◌, ℕ, zero, suc, ◌+◌, ◌<◌, ◌≤◌, ◌&&◌, ◌||◌, not, Bool, true, false, List, [], ◌∷◌, ◌++◌, length, get_or, filter, count_by, All, Option, Some, None, option_map, refl, sym, ap, subst, inl, inr, arith, length-append}
use Rattle.std.specs.List.{enumerate_from, AllPairs}
use Rattle.std.specs.Str.{bytes_eq}
use Rattle.std.proofs.lemmas.Bool.{cases_Bool, eqb-true}
use Rattle.std.proofs.lemmas.Slice.Eq.{bytes_eq-Decides}
use Rattle.std.proofs.lemmas.List.{length-map, get_or-map}
use Rattle.std.proofs.lemmas.List.Filters.{length-filter_both}
use Rattle.std.proofs.lemmas.List.Sums.{length-filter}
use Rattle.std.proofs.lemmas.List.FromFn.{length-enumerate_from, get_or-enumerate_from}
use Rattle.std.proofs.lemmas.List.Elements.{All-weaker, All-map, All-append, All-cons, All-nil, All-get_or, All-filter, filter_passes}
use Rattle.std.proofs.lemmas.List.Kept.{AllPairs-cons, AllPairs-filter}
use Rattle.elf_read.specs.declared.object.Object.{Object}
use Rattle.elf_read.specs.declared.object.Symbol.{Symbol}
use Rattle.elf_read.specs.declared.object.Reloc.{Reloc}
use Rattle.elf_read.specs.declared.object.Area.TheVariants as areas
use Rattle.elf_read.specs.declared.object.Binding.{Binding}
use Rattle.elf_read.specs.declared.object.Binding.TheVariants as bindings
use Rattle.elf_read.specs.declared.object.Place.TheVariants as places
use Rattle.elf_read.specs.Sound.{is_exported, is_defined, are_rivals, HasSymbol, IsSoundSymbol, IsSoundReloc}
use Rattle.cfi_place.specs.Names.{Names}
use Rattle.cfi_link.specs.declared.joined.OwnReloc.{OwnReloc}
use Rattle.cfi_link.specs.Chosen.{is_local, is_local_symbol, is_definition, is_at, loses, settled_symbol, settled, in_order, numbers_from, numbers_of}
use Rattle.cfi_link.specs.Applied.{is_kept, renumbered, kept_in, is_in, by_area}
use Rattle.cfi_link.proofs.SoundLemmas.{Holds, first, sound_symbol_more, field_more, all_enumerated}

-- ---- symbols

-- a reference in place of a definition
reference_sound : (a b : Object) (s : Symbol) → is_exported s.binding ≡ true → IsSoundSymbol a s
    → IsSoundSymbol b (record s { place = places.Undefined; value = 0 })
reference_sound a b s exported good = record {
  name_size = good.name_size;
  name_text = good.name_text;
  name_bytes = good.name_bytes;
  named = good.named;
  found = ap (λ (x : Bool). x || false) exported;
  inside = tt;
}

and_first : (x y : Bool) → (x && y) ≡ true → x ≡ true
and_first true y both = refl
and_first false y both = both

and_second : (x y : Bool) → (x && y) ≡ true → y ≡ true
and_second true y both = both
and_second false y both = cc

settled_sound : (a b : Object) → Holds first a b → (chosen : Names) (k : ℕ) (s : Symbol) → IsSoundSymbol a s
    → IsSoundSymbol b (settled_symbol chosen (k, s))
settled_sound a b holds chosen k s good =
    elim (cases_Bool (loses chosen (k, s))) [
      | inl lost ↦ rw lost
          (reference_sound a b s
          (and_first (is_exported s.binding) (is_defined s.place)
          (and_first (is_definition s) (not (is_at (chosen s.name) k)) lost)) good)
      | inr stays ↦ rw stays (sound_symbol_more a b holds s good)
    ]

pub symbols_sound : (a b : Object) → Holds first a b → (chosen : Names) (symbols : List Symbol)
    → All (IsSoundSymbol a) symbols → All (IsSoundSymbol b) (in_order (settled chosen symbols))
symbols_sound a b holds chosen symbols good =
    let all : All (IsSoundSymbol b) (settled chosen symbols) =
    All-map (IsSoundSymbol b) (settled_symbol chosen) (enumerate_from 0 symbols)
    (All-weaker (λ (p : ℕ × Symbol). IsSoundSymbol a p.1)
    (λ (p : ℕ × Symbol). IsSoundSymbol b (settled_symbol chosen p))
    (λ p one. settled_sound a b holds chosen p.0 p.1 one) (enumerate_from 0 symbols)
    (all_enumerated (IsSoundSymbol a) 0 symbols good)) in
    All-append (IsSoundSymbol b) (filter is_local_symbol (settled chosen symbols))
    (filter (λ s. not (is_local_symbol s)) (settled chosen symbols))
    (All-filter is_local_symbol (IsSoundSymbol b) (settled chosen symbols) all)
    (All-filter (λ s. not (is_local_symbol s)) (IsSoundSymbol b) (settled chosen symbols) all)

pub length-in_order : (chosen : Names) (symbols : List Symbol)
    → length (in_order (settled chosen symbols)) ≡ length symbols
length-in_order chosen symbols =
    length-append (filter is_local_symbol (settled chosen symbols))
    (filter (λ s. not (is_local_symbol s)) (settled chosen symbols))
    ∙ length-filter_both is_local_symbol (λ s. not (is_local_symbol s)) (λ s. refl) (settled chosen symbols)
    ∙ length-map (enumerate_from 0 symbols) (settled_symbol chosen)
    ∙ length-enumerate_from 0 symbols

-- ---- no two definitions of a name

-- a symbol that is still a definition is the one that is chosen
record Stands (chosen : Names) (k : ℕ) (s : Symbol) : Type 0 where
  chosen_number : chosen s.name ≡ Some k
  same : settled_symbol chosen (k, s) ≡ s

and_false : (x : Bool) → (x && false) ≡ true → ⊥
and_false true all = cc
and_false false all = cc

is_at_true : (found : Option ℕ) (k : ℕ) → is_at found k ≡ true → found ≡ Some k
is_at_true None k at = cc
is_at_true (Some n) k at = ap Some (eqb-true n k at)

not_and : (x y : Bool) → (x && not y) ≡ false → x ≡ true → y ≡ true
not_and true true none all = refl
not_and true false none all = cc
not_and false y none all = cc

stands : (chosen : Names) (k : ℕ) (s : Symbol) → is_definition (settled_symbol chosen (k, s)) ≡ true
    → Stands chosen k s
stands chosen k s defines =
    elim (cases_Bool (loses chosen (k, s))) [
      | inl lost ↦ let none = rw lost at defines in absurd (and_false (is_exported s.binding) none)
      | inr stays ↦
          let here : is_definition s ≡ true = rw stays at defines in
          record {
            chosen_number =
                is_at_true (chosen s.name) k (not_and (is_definition s) (is_at (chosen s.name) k) stays here);
            same = rw stays refl;
          }
    ]

-- what two symbols that define one name tell
record AreBoth (x y : Symbol) : Type 0 where
  one : is_definition x ≡ true
  other : is_definition y ≡ true
  name : x.name ≡ y.name

are_both : (x y : Symbol) → are_rivals x y ≡ true → AreBoth x y
are_both x y rivals =
    let a = is_exported x.binding in
    let b = is_defined x.place in
    let c = is_exported y.binding in
    let d = is_defined y.place in
    let e = bytes_eq x.name y.name in
    let four = and_first (((a && b) && c) && d) e rivals in
    let three = and_first ((a && b) && c) d four in
    let exported : c ≡ true = and_second (a && b) c three in
    let defined : d ≡ true = and_second ((a && b) && c) d four in
    record {
      one = and_first (a && b) c three;
      other = ap (λ (z : Bool). z && d) exported ∙ defined;
      name = (bytes_eq-Decides x.name y.name).0 (and_second (((a && b) && c) && d) e rivals);
    }

apart : (chosen : Names) (i j : ℕ) (s t : Symbol) → i < j
    → are_rivals (settled_symbol chosen (i, s)) (settled_symbol chosen (j, t)) ≡ false
apart chosen i j s t lt =
    elim (cases_Bool (are_rivals (settled_symbol chosen (i, s)) (settled_symbol chosen (j, t)))) [
      | inl rivals ↦
          let both = are_both (settled_symbol chosen (i, s)) (settled_symbol chosen (j, t)) rivals in
          let one = stands chosen i s both.one in
          let other = stands chosen j t both.other in
          let name : s.name ≡ t.name =
          ap (λ (x : Symbol). x.name) (sym one.same) ∙ both.name ∙ ap (λ (x : Symbol). x.name) other.same in
          let numbers : Some i ≡ Some j = sym one.chosen_number ∙ ap chosen name ∙ other.chosen_number in
          let equal : i ≡ j = cc in
          absurd (omega arith)
      | inr no_rivals ↦ no_rivals
    ]

settled_get : (chosen : Names) (symbols : List Symbol) (i : ℕ) (d : Symbol) → i < length symbols
    → get_or (settled chosen symbols) i d ≡ settled_symbol chosen (i, get_or symbols i d)
settled_get chosen symbols i d lt =
    let within : i < length (enumerate_from 0 symbols) = omega (arith, length-enumerate_from 0 symbols) in
    let zero : 0 + i ≡ i = omega arith in
    get_or-map (settled_symbol chosen) (enumerate_from 0 symbols) i (0, d) d within
    ∙ ap (settled_symbol chosen) (get_or-enumerate_from 0 symbols i (0, d) lt)
    ∙ ap (λ (n : ℕ). settled_symbol chosen (n, get_or symbols i d)) zero

settled_apart : (chosen : Names) (symbols : List Symbol)
    → AllPairs (λ a b. are_rivals a b ≡ false) (settled chosen symbols)
settled_apart chosen symbols = λ i j d lt within.
    let size : length (settled chosen symbols) ≡ length symbols =
    length-map (enumerate_from 0 symbols) (settled_symbol chosen) ∙ length-enumerate_from 0 symbols in
    let one = settled_get chosen symbols i d (omega arith) in
    let other = settled_get chosen symbols j d (omega arith) in
    ap (λ (x : Symbol). are_rivals x (get_or (settled chosen symbols) j d)) one
    ∙ ap (λ (y : Symbol). are_rivals (settled_symbol chosen (i, get_or symbols i d)) y) other
    ∙ apart chosen i j (get_or symbols i d) (get_or symbols j d) lt

local_hidden : (b : Binding) → is_local b ≡ true → is_exported b ≡ false
local_hidden bindings.Local local = refl
local_hidden bindings.Global local = cc
local_hidden bindings.Weak local = cc

local_apart : (x y : Symbol) → is_local_symbol x ≡ true → are_rivals x y ≡ false
local_apart x y local = let hidden = local_hidden x.binding local in rw hidden refl

pairs_append : {A : Type 0} (R : A → A → Type 0) (xs ys : List A) → AllPairs R xs → AllPairs R ys
    → All (λ x. All (R x) ys) xs → AllPairs R (xs ++ ys)
pairs_append R [] ys one other cross = other
pairs_append R (x ∷ xs) ys one other cross =
    AllPairs-cons R x (xs ++ ys)
    (All-append (R x) xs ys (λ k d lt. one zero (suc k) d (omega arith) (omega arith)) (cross zero x (omega arith)))
    (pairs_append R xs ys (λ i j d lt within. one (suc i) (suc j) d (omega arith) (omega arith)) other
    (λ k d lt. cross (suc k) d (omega arith)))

pub symbols_apart : (chosen : Names) (symbols : List Symbol)
    → AllPairs (λ a b. are_rivals a b ≡ false) (in_order (settled chosen symbols))
symbols_apart chosen symbols =
    let all = settled_apart chosen symbols in
    let locals = filter is_local_symbol (settled chosen symbols) in
    let others = filter (λ s. not (is_local_symbol s)) (settled chosen symbols) in
    pairs_append (λ a b. are_rivals a b ≡ false) locals others
    (AllPairs-filter (λ a b. are_rivals a b ≡ false) is_local_symbol (settled chosen symbols) all)
    (AllPairs-filter (λ a b. are_rivals a b ≡ false) (λ s. not (is_local_symbol s)) (settled chosen symbols) all)
    (All-weaker (λ x. is_local_symbol x ≡ true) (λ x. All (λ y. are_rivals x y ≡ false) others)
    (λ x local k d lt. local_apart x (get_or others k d) local) locals
    (filter_passes is_local_symbol (settled chosen symbols)))

-- ---- relocations

length-numbers : (local other : ℕ) (symbols : List Symbol) → length (numbers_from local other symbols) ≡ length symbols
length-numbers local other [] = refl
length-numbers local other (s ∷ symbols) =
    elim (cases_Bool (is_local_symbol s)) [
      | inl here ↦ rw here (ap suc (length-numbers (local + 1) other symbols))
      | inr there ↦ rw there (ap suc (length-numbers local (other + 1) symbols))
    ]

numbers_below : (bound local other : ℕ) (symbols : List Symbol)
    → local + length (filter is_local_symbol symbols) ≤ bound
    → other + length (filter (λ s. not (is_local_symbol s)) symbols) ≤ bound
    → All (λ n. n < bound) (numbers_from local other symbols)
numbers_below bound local other [] one more = All-nil (λ n. n < bound)
numbers_below bound local other (s ∷ symbols) one more =
    elim (cases_Bool (is_local_symbol s)) [
      | inl here ↦
          let few = rw here at one in
          let rest = rw here at more in
          rw here
          (All-cons (λ n. n < bound) local (numbers_from (local + 1) other symbols) (omega arith)
          (numbers_below bound (local + 1) other symbols (omega arith) rest))
      | inr there ↦
          let few = rw there at one in
          let rest = rw there at more in
          rw there
          (All-cons (λ n. n < bound) other (numbers_from local (other + 1) symbols) (omega arith)
          (numbers_below bound local (other + 1) symbols few (omega arith)))
    ]

pub numbers_sound : (symbols : List Symbol) → All (λ n. n < length symbols) (numbers_of symbols)
numbers_sound symbols =
    let both = length-filter_both is_local_symbol (λ s. not (is_local_symbol s)) (λ s. refl) symbols in
    let count = length-filter is_local_symbol symbols in
    numbers_below (length symbols) 0 (count_by is_local_symbol symbols) symbols (omega (arith, both))
    (omega (arith, both, count))

number_new : (a b : Object) (numbers : List ℕ) → All (λ n. n < length b.symbols) numbers
    → length numbers ≡ length a.symbols → (symbol : Option ℕ) → HasSymbol a symbol
    → HasSymbol b (option_map (λ k. get_or numbers k 0) symbol)
number_new a b numbers below size None has = tt
number_new a b numbers below size (Some k) has =
    All-get_or (λ n. n < length b.symbols) numbers k 0 (omega arith) below

reloc_sound : (a b : Object) → Holds first a b → (numbers : List ℕ) → All (λ n. n < length b.symbols) numbers
    → length numbers ≡ length a.symbols → (r : Reloc) → IsSoundReloc a r → IsSoundReloc b (renumbered numbers r)
reloc_sound a b holds numbers below size r good = record {
  known = good.known;
  kept = good.kept;
  symbol = number_new a b numbers below size r.symbol good.symbol;
  field = field_more a b holds r.area r.kind r.offset good.field;
}

pub relocs_sound : (a b : Object) → Holds first a b → (reaches : List (Option ℕ)) (relocs : List OwnReloc)
    → length b.symbols ≡ length a.symbols → All (λ own. IsSoundReloc a own.reloc) relocs
    → All (IsSoundReloc b) (by_area (kept_in reaches (numbers_of a.symbols) relocs))
relocs_sound a b holds reaches relocs same good =
    let numbers = numbers_of a.symbols in
    let below : All (λ n. n < length b.symbols) numbers =
    subst (λ (bound : ℕ). All (λ n. n < bound) numbers) (sym same) (numbers_sound a.symbols) in
    let size : length numbers ≡ length a.symbols =
    length-numbers 0 (count_by is_local_symbol a.symbols) a.symbols in
    let kept : All (IsSoundReloc b) (kept_in reaches numbers relocs) =
    All-map (IsSoundReloc b) (λ (own : OwnReloc). renumbered numbers own.reloc) (filter (is_kept reaches) relocs)
    (All-filter (is_kept reaches) (λ own. IsSoundReloc b (renumbered numbers own.reloc)) relocs
    (All-weaker (λ own. IsSoundReloc a own.reloc) (λ own. IsSoundReloc b (renumbered numbers own.reloc))
    (λ own one. reloc_sound a b holds numbers below size own.reloc one) relocs good)) in
    All-append (IsSoundReloc b) (filter (is_in areas.Text) (kept_in reaches numbers relocs))
    (filter (is_in areas.Data) (kept_in reaches numbers relocs))
    (All-filter (is_in areas.Text) (IsSoundReloc b) (kept_in reaches numbers relocs) kept)
    (All-filter (is_in areas.Data) (IsSoundReloc b) (kept_in reaches numbers relocs) kept)
