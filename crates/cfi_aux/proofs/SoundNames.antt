-- The names, bindings and places of the symbols that are kept of a sound file.
use Rattle.std.proofs.Common.{◌≡◌, ◌<◌, ◌≤◌, ◌==◌, ◌&&◌, ◌||◌, not, ℕ, zero, suc, List, [], length, take, drop, Bool, true, false, nat_lt, refl, subst, ⊎_elim, inl, inr, arith}
use Rattle.std.specs.List.{list_any, before_first, position_or_len}
use Rattle.std.specs.Str.{is_utf8}
use Rattle.std.specs.Str.Lossy.{utf8_valid_len, valid_len_up_to}
use Rattle.std.proofs.lemmas.Bool.{cases_Bool, and_parts, eqb-true, ltb-false, leb-true}
use Rattle.std.proofs.lemmas.Bool.Decides.{nat_tests}
use Rattle.std.proofs.lemmas.List.{take_all, length-take, get_or-take}
use Rattle.std.proofs.lemmas.List.Folds.{list_any_none}
use Rattle.std.proofs.lemmas.List.Sums.{fails_before_first}
use Rattle.std.proofs.lemmas.Str.{is_utf8-from_IsUtf8, IsUtf8-nil}
use Rattle.elf_read.specs.Section.{is_text}
use Rattle.elf_read.specs.Symbol as elf
use Rattle.elf_read.specs.Symbol.{symbol_at, binding_of, type_of, stored_name, name_of, is_well_named, is_bad_info}
use Rattle.elf_read.specs.Object.{kept_binding, kept_place}
use Rattle.elf_read.specs.declared.symbol.TheConstants.{LOCAL, GLOBAL, WEAK, SECTION, UNDEFINED, ABSOLUTE}
use Rattle.elf_read.proofs.SectionLemmas.{or_false}
use Rattle.elf_read.specs.Sound.{is_exported, is_defined}

-- ---- names

up_to-le : (bs : List ℕ) (n : ℕ) → valid_len_up_to bs n ≤ n
up_to-le bs zero = omega arith
up_to-le bs (suc n) = ⊎_elim
    (λ is.
    let here : valid_len_up_to bs (suc n) ≡ suc n = rw is refl in omega arith)
    (λ other.
    let next : valid_len_up_to bs (suc n) ≡ valid_len_up_to bs n = rw other refl in
    omega (arith, next, up_to-le bs n))
    (cases_Bool (is_utf8 (take (suc n) bs)))

valid_front : (bs : List ℕ) (n : ℕ) → valid_len_up_to bs n ≡ n → is_utf8 (take n bs) ≡ true
valid_front bs zero h = is_utf8-from_IsUtf8 [] IsUtf8-nil
valid_front bs (suc n) h = ⊎_elim (λ is. is)
    (λ other.
    let next : valid_len_up_to bs (suc n) ≡ valid_len_up_to bs n = rw other refl in
    absurd (omega (arith, next, h, up_to-le bs n)))
    (cases_Bool (is_utf8 (take (suc n) bs)))

text_valid : (bs : List ℕ) → utf8_valid_len bs ≡ length bs → is_utf8 bs ≡ true
unfolding utf8_valid_len
text_valid bs h =
    let front = valid_front bs (length bs) h in
    subst (λ (t : List ℕ). is_utf8 t ≡ true) (take_all (length bs) bs (omega arith)) front

abbrev is_zero : ℕ → Bool
is_zero byte = byte == 0

no_zero : (xs : List ℕ) → list_any is_zero (before_first is_zero xs) ≡ false
no_zero xs = list_any_none is_zero (before_first is_zero xs) (λ i d lt.
    let n = position_or_len is_zero xs in
    let below : i < n = omega (arith, length-take n xs) in
    rw (get_or-take n xs i d below) (fails_before_first is_zero xs i d below))

pub record IsGoodName (name : List ℕ) : Type 0 where
  pub size : length name ≤ 255
  pub text : is_utf8 name ≡ true
  pub bytes : list_any is_zero name ≡ false

stored_zero : (bytes : List ℕ) (k : ℕ) → list_any is_zero (stored_name bytes k) ≡ false
unfolding stored_name
stored_zero bytes k = no_zero (drop (symbol_at bytes k).name (elf.symbol_names bytes))

stored_good : (bytes : List ℕ) (k : ℕ) → is_well_named bytes k ≡ true → IsGoodName (stored_name bytes k)
unfolding is_well_named
stored_good bytes k h =
    let name = stored_name bytes k in
    let last = and_parts _ (utf8_valid_len name == length name) h in
    let first = and_parts _ _ last.0 in
    record {
      size = leb-true (length name) 255 first.1;
      text = text_valid name (eqb-true _ _ last.1);
      bytes = stored_zero bytes k;
    }

pub name_good : (bytes : List ℕ) (k : ℕ) → is_well_named bytes k ≡ true → IsGoodName (name_of bytes k)
unfolding name_of
name_good bytes k h = ⊎_elim
    (λ section. rw section (record { size = omega arith; text = is_utf8-from_IsUtf8 [] IsUtf8-nil; bytes = refl }))
    (λ other. rw other (stored_good bytes k h))
    (cases_Bool (type_of (symbol_at bytes k) == SECTION))

-- ---- bindings and places

small_binding : (bytes : List ℕ) (k : ℕ) → is_bad_info bytes k ≡ false → binding_of (symbol_at bytes k) ≤ 2
unfolding is_bad_info
small_binding bytes k h =
    ltb-false _ _ (or_false _ (nat_lt WEAK (binding_of (symbol_at bytes k))) h).1

exported_by : (binding : ℕ) → binding ≤ 2 → (binding == LOCAL) ≡ false → (binding == GLOBAL) ≡ false
    → (binding == WEAK) ≡ true
exported_by binding le a b = grind (arith, nat_tests)

pub exported_is : (bytes : List ℕ) (k : ℕ) → is_bad_info bytes k ≡ false
    → is_exported (kept_binding bytes k) ≡ elf.is_exported_entry (symbol_at bytes k)
unfolding kept_binding
exported_is bytes k h =
    let binding = binding_of (symbol_at bytes k) in
    elim (cases_Bool (binding == LOCAL)) [
      | inl local ↦ let is : binding ≡ LOCAL = eqb-true _ _ local in rw is refl
      | inr other ↦ elim (cases_Bool (binding == GLOBAL)) [
        | inl global ↦ rw (other, global) refl
        | inr weak ↦
            let is = exported_by binding (small_binding bytes k h) other weak in
            rw (other, weak, is) refl
      ]
    ]

pub not_local : (bytes : List ℕ) (k : ℕ)
    → is_exported (kept_binding bytes k) ≡ not (binding_of (symbol_at bytes k) == LOCAL)
unfolding kept_binding
not_local bytes k =
    let binding = binding_of (symbol_at bytes k) in
    elim (cases_Bool (binding == LOCAL)) [
      | inl local ↦ rw local refl
      | inr other ↦ elim (cases_Bool (binding == GLOBAL)) [
        | inl global ↦ rw (other, global) refl
        | inr weak ↦ rw (other, weak) refl
      ]
    ]

pub defined_is : (bytes : List ℕ) (k : ℕ)
    → is_defined (kept_place bytes k) ≡ not ((symbol_at bytes k).section == UNDEFINED)
unfolding kept_place
defined_is bytes k =
    let section = (symbol_at bytes k).section in
    elim (cases_Bool (section == UNDEFINED)) [
      | inl none ↦ rw none refl
      | inr some ↦ elim (cases_Bool (section == ABSOLUTE)) [
        | inl absolute ↦ rw (some, absolute) refl
        | inr relative ↦ elim (cases_Bool (is_text bytes section)) [
          | inl text ↦ rw (some, relative, text) refl
          | inr other ↦ rw (some, relative, other) refl
        ]
      ]
    ]

pub not_both : (a b : Bool) → (a && b) ≡ false → (not a || not b) ≡ true
not_both true true h = absurd cc
not_both true false h = refl
not_both false b h = refl
