-- The names that are looked up are all that values and functions ask for.
use Rattle.std.proofs.Common.{◌≡◌, ◌∙◌, ◌||◌, ◌&&◌, ℕ, suc, ◌<◌, Bool, true, false, List, [], ◌∷◌, ◌++◌, length, get_or, is_some, Option, refl, sym, ap, inl, inr, map, arith}
use Rattle.std.specs.List.{list_any, AllPairs}
use Rattle.std.specs.Str.{bytes_eq}
use Rattle.std.proofs.lemmas.Bool.{cases_Bool, true≢false}
use Rattle.std.proofs.lemmas.Slice.Eq.{bytes_eq-Decides}
use Rattle.elf_read.specs.declared.object.Symbol.{Symbol}
use Rattle.elf_read.specs.declared.object.Place.{Place}
use Rattle.elf_read.specs.declared.object.Place.TheVariants as places
use Rattle.elf_read.specs.Sound.{are_rivals}
use Rattle.cfi_aux.specs.declared.records.Function.{Function}
use Rattle.cfi_place.specs.declared.room.Room.{Room}
use Rattle.cfi_place.specs.Names.{Names, first_in, with_name}
use Rattle.cfi_place.specs.Value.{value_by, value_of, values_by}
use Rattle.cfi_place.specs.Functions.{globals_in, stands_at, has_global, make_function, placed_functions}
use Rattle.cfi_place.specs.inner.Wanted.{is_undefined, is_undefined_place}
use Rattle.cfi_place.proofs.FunctionLemmas.{has_global-is}
use Rattle.cfi_place.proofs.NameLemmas.{first_in-push}

-- a symbol that is defined has a value without names
value_alike : (place : Place) (room : Room) (own other names : Names) (s : Symbol) → is_undefined_place place ≡ false
    → value_by place room own names s ≡ value_by place room other names s
value_alike places.Undefined room own other names s h = absurd (true≢false h)
value_alike places.Absolute room own other names s h = refl
value_alike places.Text room own other names s h = refl
value_alike places.Data room own other names s h = refl

or_none : (a b : Bool) → (a || b) ≡ false → (a ≡ false) × (b ≡ false)
or_none true b h = absurd (true≢false h)
or_none false b h = (refl, h)

pub values_alike : (symbols : List Symbol) (room : Room) (own other names : Names) → list_any is_undefined symbols ≡ false
    → values_by room own names symbols ≡ values_by room other names symbols
values_alike [] room own other names h = refl
values_alike (s ∷ rest) room own other names h =
    let apart = or_none (is_undefined s) (list_any is_undefined rest) h in
    let one : value_of room own names s ≡ value_of room other names s =
    value_alike s.place room own other names s apart.0 in
    let all = values_alike rest room own other names apart.1 in
    rw (one, all) refl

-- ---- names of functions

pub and_rest : (a b : Bool) → a ≡ true → (a && b) ≡ false → b ≡ false
and_rest true b is none = none
and_rest false b is none = absurd (true≢false (sym is))

-- one name more, in names that answer alike at it and at the name that is asked for
pub names-push-at : (before after : List (List ℕ × ℕ)) (x : List ℕ) (n : ℕ) (old new : Names) (q : List ℕ)
    → after ≡ before ++ (x, n) ∷ [] → old q ≡ first_in before q → old x ≡ first_in before x
    → new q ≡ with_name x n old q → new q ≡ first_in after q
names-push-at before after x n old new q more here there added =
    let same : with_name x n old q ≡ with_name x n (first_in before) q = rw (here, there) refl in
    added ∙ same ∙ sym (first_in-push before x n q) ∙ ap (λ (pairs : List (List ℕ × ℕ)). first_in pairs q) (sym more)

-- a name more changes nothing at another one
pub first_in-other : (before after : List (List ℕ × ℕ)) (x : List ℕ) (n : ℕ) (names : Names) (q : List ℕ)
    → after ≡ before ++ (x, n) ∷ [] → is_some (names q) ≡ true → is_some (names x) ≡ false
    → first_in after q ≡ first_in before q
first_in-other before after x n names q more asked none = elim (cases_Bool (bytes_eq x q)) [
  | inl same ↦
      let is : x ≡ q = (bytes_eq-Decides x q).0 same in
      absurd (true≢false (sym asked ∙ sym (ap (λ (y : List ℕ). is_some (names y)) is) ∙ none))
  | inr other ↦
      ap (λ (pairs : List (List ℕ × ℕ)). first_in pairs q) more ∙ first_in-push before x n q ∙ rw other refl
]

pub functions_alike : (globals : Names) (symbols : List Symbol) (functions : List Function)
    → AllPairs (λ a b. are_rivals a b ≡ false) symbols
    → ((k : ℕ) (d : Function) → k < length functions
    → globals (get_or functions k d).name ≡ first_in (globals_in symbols) (get_or functions k d).name)
    → map (λ f. make_function (has_global globals f) f) functions ≡ placed_functions symbols functions
functions_alike globals symbols [] pairs same = refl
functions_alike globals symbols (f ∷ rest) pairs same =
    let one = ap (λ (found : Option ℕ). stands_at found f.offset) (same 0 f (omega arith)) ∙ has_global-is symbols f pairs in
    let all = functions_alike globals symbols rest pairs (λ k d h. same (suc k) d (omega (arith, h))) in
    rw (one, all) refl
