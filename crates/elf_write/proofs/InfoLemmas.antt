-- What the reader's rules say of symbols by their binding and place.
use Rattle.std.proofs.Common.{◌≡◌, ◌≢◌, ◌==◌, ◌&&◌, ◌||◌, not, ◌*◌, ◌/◌, ◌%◌, ◌<◌, ◌≤◌, ◌^◌, ℕ, zero, suc, Bool, true, false, nat_lt, List, length, get_or, refl, sym, ap, arith, ⊎_elim}
use Rattle.std.specs.Str.{bytes_eq}
use Rattle.std.proofs.lemmas.Bool.{cases_Bool, ne_eqb, lt-ltb, le-ltb}
use Rattle.std.proofs.lemmas.List.{get_or_default}
use Rattle.std.proofs.lemmas.Slice.Eq.{bytes_eq-Decides}
use Rattle.elf_read.specs.Places.{some_below}
use Rattle.elf_read.specs.Header.{section_count}
use Rattle.elf_read.specs.Section.{section_at, is_loaded}
use Rattle.elf_read.specs.declared.section.Section.{Section}
use Rattle.elf_read.specs.declared.object.Object.{Object}
use Rattle.elf_read.specs.declared.object.Symbol.{Symbol}
use Rattle.elf_read.specs.declared.object.Binding.{Binding}
use Rattle.elf_read.specs.declared.object.Binding.TheVariants as bindings
use Rattle.elf_read.specs.declared.object.Place.{Place}
use Rattle.elf_read.specs.declared.object.Place.TheVariants as places
use Rattle.elf_write.specs.Contents.{name_table, no_symbol, symbol_name_place, binding_number, section_number}
use Rattle.elf_write.specs.Whole.{IsWhole, HasName, HasPlace, greatest_value}
use Rattle.elf_read.specs.Sound as sound_specs
use Rattle.elf_write.proofs.SymbolLemmas.{names_within}
use Rattle.elf_write.proofs.HeaderLemmas.{few_sections}
use Rattle.elf_write.proofs.SectionLemmas.{AreSections, written_section}
use Rattle.elf_write.proofs.KindLemmas.{count_is, loaded_part, enough}

-- no number below a count passes
pub none_below : (test : ℕ → Bool) (count : ℕ) → ((j : ℕ) → j < count → test j ≡ false) → some_below test count ≡ false
none_below test zero none = refl
none_below test (suc count) none =
    let before = none_below test count (λ j below. none j (omega arith)) in
    let last = none count (omega arith) in
    rw (before, last) refl

pub different : (xs ys : List ℕ) → xs ≢ ys → bytes_eq xs ys ≡ false
different xs ys apart = ⊎_elim (λ same. absurd (apart ((bytes_eq-Decides xs ys).0 same)))
    (λ other. other) (cases_Bool (bytes_eq xs ys))

-- the two loaded sections, and how many sections there are
pub record HasLoaded (object : Object) (bytes : List ℕ) : Type 0 where
  pub text : is_loaded bytes 1 ≡ true
  pub data_there : is_loaded bytes 2 ≡ true
  pub text_size : (section_at bytes 1).size ≡ length object.text
  pub data_size : (section_at bytes 2).size ≡ length object.static_data
  pub some : 8 ≤ section_count bytes
  pub few : section_count bytes ≤ 10

pub has_loaded : (object : Object) (bytes : List ℕ) → AreSections object bytes → HasLoaded object bytes
unfolding written_section
has_loaded object bytes are =
    let some = enough object bytes are in
    let count = count_is object bytes are in
    record {
      text = loaded_part object bytes are 1 (omega arith);
      data_there = loaded_part object bytes are 2 (omega arith);
      text_size = ap (λ (s : Section). s.size) (are.each 1 (omega arith));
      data_size = ap (λ (s : Section). s.size) (are.each 2 (omega arith));
      some = omega arith;
      few = omega (arith, few_sections object);
    }

-- a symbol is in a section
unfoldable pub in_by : Place → Bool
in_by places.Text = true
in_by places.Data = true
in_by _ = false

module _ (object : Object) (bytes : List ℕ) (has : HasLoaded object bytes) where
  pub in_section : (place : Place)
      → (not (section_number place == 0) && nat_lt (section_number place) (section_count bytes)) ≡ in_by place
  unfolding in_by
  in_section places.Undefined = refl
  in_section places.Absolute = le-ltb _ _ (omega (arith, has.few))
  in_section places.Text = lt-ltb _ _ (omega (arith, has.some))
  in_section places.Data = lt-ltb _ _ (omega (arith, has.some))

  pub loaded_there : (place : Place) → (in_by place && not (is_loaded bytes (section_number place))) ≡ false
  unfolding in_by
  loaded_there places.Undefined = refl
  loaded_there places.Absolute = refl
  loaded_there places.Text = ap not has.text
  loaded_there places.Data = ap not has.data_there

  pub place_there : (place : Place)
      → not (section_number place == 0 || section_number place == 0xfff1 || section_number place == 0xfff2
      || nat_lt (section_number place) (section_count bytes)) ≡ false
  place_there places.Undefined = refl
  place_there places.Absolute = refl
  place_there places.Text = ap not (lt-ltb _ _ (omega (arith, has.some)))
  place_there places.Data = ap not (lt-ltb _ _ (omega (arith, has.some)))

  pub not_past : (place : Place) (value : ℕ) → value ≤ greatest_value object place
      → (in_by place && is_loaded bytes (section_number place)
      && nat_lt (section_at bytes (section_number place)).size value) ≡ false
  unfolding in_by
  not_past places.Undefined value within = refl
  not_past places.Absolute value within = refl
  not_past places.Text value within = rw has.text (le-ltb _ _ (omega (arith, has.text_size)))
  not_past places.Data value within = rw has.data_there (le-ltb _ _ (omega (arith, has.data_size)))

pub info_by : (binding : Binding)
    → ((16 * binding_number binding) % 16 == 6 || nat_lt 2 ((16 * binding_number binding) / 16)) ≡ false
info_by bindings.Local = refl
info_by _ = refl

pub type_by : (binding : Binding) → (16 * binding_number binding) % 16 ≡ 0
type_by bindings.Local = refl
type_by _ = refl

pub named_by : (binding : Binding) (name : List ℕ) → HasName binding name
    → (((16 * binding_number binding) / 16 == 1 || (16 * binding_number binding) / 16 == 2) && length name == 0) ≡ false
named_by bindings.Local name named = refl
named_by bindings.Global name named = ne_eqb _ _ (λ none. absurd (omega arith))
named_by bindings.Weak name named = ne_eqb _ _ (λ none. absurd (omega arith))

pub defined_by : (binding : Binding) (place : Place) → HasPlace binding place
    → ((16 * binding_number binding) / 16 == 0 && section_number place == 0) ≡ false
defined_by bindings.Local places.Undefined placed = sym placed
defined_by bindings.Local places.Absolute placed = refl
defined_by bindings.Local places.Text placed = refl
defined_by bindings.Local places.Data placed = refl
defined_by bindings.Global place placed = refl
defined_by bindings.Weak place placed = refl

pub definition_by : (binding : Binding) (place : Place)
    → (((16 * binding_number binding) / 16 == 1 || (16 * binding_number binding) / 16 == 2)
    && not (section_number place == 0)) ≡ (sound_specs.is_exported binding && sound_specs.is_defined place)
definition_by bindings.Local place = refl
definition_by bindings.Global places.Undefined = refl
definition_by bindings.Global places.Absolute = refl
definition_by bindings.Global places.Text = refl
definition_by bindings.Global places.Data = refl
definition_by bindings.Weak places.Undefined = refl
definition_by bindings.Weak places.Absolute = refl
definition_by bindings.Weak places.Text = refl
definition_by bindings.Weak places.Data = refl

pub common_by : (place : Place) → (section_number place == 0xfff2) ≡ false
common_by places.Undefined = refl
common_by _ = refl

pub value-small : (object : Object) (place : Place) (value : ℕ) → IsWhole object → value ≤ greatest_value object place
    → value < 2 ^ 32
value-small object places.Undefined value whole within = omega arith
value-small object places.Absolute value whole within = omega arith
value-small object places.Text value whole within = omega (arith, whole.limits.text)
value-small object places.Data value whole within = omega (arith, whole.limits.static_data)

pub name_place-small : (symbols : List Symbol) (k : ℕ) → k < length symbols → length (name_table symbols) < 2 ^ 32
    → symbol_name_place symbols k < 2 ^ 32
unfolding symbol_name_place
name_place-small symbols k within fits =
    let symbol = get_or symbols k no_symbol in
    let is : symbol ≡ get_or symbols k symbol = get_or_default symbols k no_symbol symbol within in
    let all = names_within symbols k symbol within is in
    ⊎_elim
    (λ (empty : (length symbol.name == 0) ≡ true). rw empty (omega arith))
    (λ (some : (length symbol.name == 0) ≡ false). rw some (omega (arith, all)))
    (cases_Bool (length symbol.name == 0))
