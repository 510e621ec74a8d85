-- The names that symbols ask for are all that their values take.
use Rattle.std.proofs.Common.{◌≡◌, ◌∙◌, ℕ, zero, suc, ◌+◌, ◌<◌, Bool, true, false, ◌||◌, ◌&&◌, List, [], ◌∷◌, ◌++◌, length, take, get_or, Option, refl, sym, ap, inl, inr, arith}
use Rattle.std.specs.List.{list_any}
use Rattle.std.specs.Option.{option_or}
use Rattle.std.specs.Str.{bytes_eq}
use Rattle.std.proofs.lemmas.Bool.{cases_Bool}
use Rattle.std.proofs.lemmas.List.{take_more}
use Rattle.std.proofs.lemmas.List.Folds.{list_any-append}
use Rattle.std.proofs.lemmas.Slice.Eq.{bytes_eq-Decides}
use Rattle.elf_read.specs.declared.object.Symbol.{Symbol}
use Rattle.elf_read.specs.declared.object.Place.{Place}
use Rattle.elf_read.specs.declared.object.Place.TheVariants as places
use Rattle.cfi_place.specs.declared.room.Room.{Room}
use Rattle.cfi_aux.specs.declared.modules.Module.{Module}
use Rattle.cfi_aux.specs.declared.placed.Placed.{Placed}
use Rattle.cfi_place.specs.Names.{Names}
use Rattle.cfi_place.specs.Placed.{values_in, placed_by, IsPlaced}
use Rattle.cfi_place.specs.Value.{weak_value, value_by, value_of, values_by}
use Rattle.cfi_place.specs.inner.Wanted.{is_undefined, is_undefined_place}
use Rattle.cfi_modules.specs.inner.Index.{asked_in}

-- one symbol more
abbrev pub asks : List Symbol → List ℕ → Bool
asks symbols q = list_any (λ s. is_undefined s && bytes_eq s.name q) symbols

one_on : (a u b : Bool) → u ≡ true → (a || ((u && b) || false)) ≡ (a || b)
one_on true u b is = refl
one_on false u true is = rw is refl
one_on false u false is = rw is refl

none_on : (a u b : Bool) → u ≡ false → (a || ((u && b) || false)) ≡ a
none_on true u b is = refl
none_on false u b is = rw is refl

module _ (symbols : List Symbol) (i : ℕ) (s : Symbol) (less : i < length symbols) (is : s ≡ get_or symbols i s) where
  pushed : (q : List ℕ)
      → asks (take (i + 1) symbols) q
      ≡ (asks (take i symbols) q || ((is_undefined s && bytes_eq s.name q) || false))
  pushed q =
      ap (λ (xs : List Symbol). asks xs q) (take_more symbols i s less)
      ∙ ap (λ (x : Symbol). asks (take i symbols ++ x ∷ []) q) (sym is)
      ∙ list_any-append (λ (x : Symbol). is_undefined x && bytes_eq x.name q) (take i symbols) (s ∷ [])

  pub asks-more : is_undefined s ≡ true → (q : List ℕ)
      → asks (take (i + 1) symbols) q ≡ (asks (take i symbols) q || bytes_eq s.name q)
  asks-more undefined q = pushed q ∙ one_on (asks (take i symbols) q) (is_undefined s) (bytes_eq s.name q) undefined

  pub asks-same : is_undefined s ≡ false → (q : List ℕ) → asks (take (i + 1) symbols) q ≡ asks (take i symbols) q
  asks-same defined q = pushed q ∙ none_on (asks (take i symbols) q) (is_undefined s) (bytes_eq s.name q) defined

-- ---- values

any_at : {X : Type 0} (p : X → Bool) (xs : List X) (k : ℕ) (d : X) → k < length xs → p (get_or xs k d) ≡ true
    → list_any p xs ≡ true
any_at p [] k d less is = absurd (omega (arith, less))
any_at p (x ∷ xs) zero d less is = rw is refl
any_at p (x ∷ xs) (suc k) d less is =
    let rest = any_at p xs k d (omega (arith, less)) is in
    elim (cases_Bool (p x)) [ inl here ↦ rw here refl | inr there ↦ rw (there, rest) refl ]

value_on : (place : Place) (room : Room) (own f g : Names) (s : Symbol)
    → (is_undefined_place place ≡ true → f s.name ≡ g s.name)
    → value_by place room own f s ≡ value_by place room own g s
value_on places.Undefined room own f g s same =
    ap (λ (o : Option ℕ). option_or (own s.name) (option_or o (weak_value s.binding))) (same refl)
value_on places.Absolute room own f g s same = refl
value_on places.Text room own f g s same = refl
value_on places.Data room own f g s same = refl

abbrev AreAlike : (f g : Names) → List Symbol → Type 0
AreAlike f g symbols =
    (k : ℕ) (d : Symbol) → k < length symbols → is_undefined (get_or symbols k d) ≡ true
    → f (get_or symbols k d).name ≡ g (get_or symbols k d).name

values_same : (room : Room) (own f g : Names) (symbols : List Symbol) → AreAlike f g symbols
    → values_by room own f symbols ≡ values_by room own g symbols
values_same room own f g [] alike = refl
values_same room own f g (s ∷ rest) alike =
    let one : value_of room own f s ≡ value_of room own g s =
    value_on s.place room own f g s (λ undefined. alike 0 s (omega arith) undefined) in
    let others = values_same room own f g rest (λ k d less undefined. alike (suc k) d (omega (arith, less)) undefined) in
    rw (one, others) refl

pub values_asked : (symbols : List Symbol) (names all found : Names) → ((q : List ℕ) → all q ≡ names q)
    → ((q : List ℕ) → found q ≡ asked_in all symbols q) → (room : Room) (own : Names)
    → values_by room own found symbols ≡ values_by room own names symbols
values_asked symbols names all found same is room own =
    values_same room own found names symbols (λ k d less undefined.
    let s = get_or symbols k d in
    let own_name : bytes_eq s.name s.name ≡ true = (bytes_eq-Decides s.name s.name).1 refl in
    let this : (is_undefined s && bytes_eq s.name s.name) ≡ true = rw (undefined, own_name) refl in
    let asked = any_at (λ (x : Symbol). is_undefined x && bytes_eq x.name s.name) symbols k d less this in
    is s.name ∙ rw asked (same s.name))

-- and so is what placing makes
pub placed_alike : (m : Module) (room : Room) (f g : Names) (placed : Placed)
    → values_in m.object room f ≡ values_in m.object room g → IsPlaced m room f placed → IsPlaced m room g placed
placed_alike m room f g placed same is = record {
  bytes = is.bytes;
  is_placed = ap (placed_by m.object room) (sym same) ∙ is.is_placed;
  base = is.base;
  slot_base = is.slot_base;
  data_base = is.data_base;
  words = is.words;
  static_data = is.static_data;
  functions = is.functions;
  branches = is.branches;
  types = is.types;
  exports = is.exports;
}
