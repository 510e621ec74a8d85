-- The symbols of a written file break no rule, and are kept.
use Rattle.std.proofs.Common.{◌≡◌, ◌==◌, ◌&&◌, ◌||◌, not, ◌*◌, ◌/◌, ◌%◌, ◌<◌, ◌++◌, ℕ, zero, suc, true, false, nat_lt, List, [], ◌∷◌, length, drop, get_or, refl, sym, ap, ◌∙◌, arith, ⊎_elim}
use Rattle.std.specs.List.{before_first}
use Rattle.std.specs.Str.{bytes_eq}
use Rattle.std.proofs.lemmas.Bool.{cases_Bool, ne_eqb}
use Rattle.std.proofs.lemmas.Str.{IsUtf8-nil}
use Rattle.elf_read.specs.Places.{some_below}
use Rattle.elf_read.specs.Header.{section_count}
use Rattle.elf_read.specs.Section.{section_at, is_loaded}
use Rattle.elf_read.specs.Symbol.{symbol_names, symbol_at, is_in_section, is_left_out, stored_name, name_of, is_well_named, is_bad_info, is_bad_place, is_nameless, is_local_undefined, is_past_section, is_definition_at, defines, is_second_definition, is_bad_symbol, is_common}
use Rattle.elf_read.specs.declared.symbol.Entry.{Entry}
use Rattle.elf_read.specs.declared.object.Object.{Object}
use Rattle.elf_read.specs.declared.object.Symbol.{Symbol}
use Rattle.elf_read.proofs.SymbolLemmas.{well_named}
use Rattle.elf_write.specs.Contents.{name_table, no_symbol, symbol_name_place, binding_number, section_number}
use Rattle.elf_write.specs.File.{IsWritable}
use Rattle.elf_write.specs.Whole.{IsWhole, IsGoodSymbol}
use Rattle.elf_write.specs.Whole as whole_specs
use Rattle.elf_write.proofs.SizeLemmas.{names-fit}
use Rattle.elf_write.proofs.SectionLemmas.{AreSections}
use Rattle.elf_write.proofs.EntryLemmas.{written_entry, names_after, name_stands, ends, before_end, symbol_names_are, symbol_is, symbol_zero}
use Rattle.elf_write.proofs.InfoLemmas.{HasLoaded, none_below, different, has_loaded, info_by, type_by, named_by, defined_by, definition_by, common_by, value-small, name_place-small, in_section, loaded_there, place_there, not_past}

module _ (object : Object) (bytes : List ℕ) (are : AreSections object bytes) (whole : IsWhole object) (fits :
    IsWritable object) where
  -- symbol k of the object
  abbrev of : ℕ → Symbol
  of k = get_or object.symbols k no_symbol

  good : (k : ℕ) → k < length object.symbols → IsGoodSymbol object (of k)
  good k within = whole.symbols k no_symbol within

  has : HasLoaded object bytes
  has = has_loaded object bytes are

  pub entry_is : (k : ℕ) → k < length object.symbols → symbol_at bytes (suc k) ≡ written_entry object.symbols k
  entry_is k within = symbol_is object bytes are k within (name_place-small object.symbols k within (names-fit object
      fits))
      (value-small object (of k).place (of k).value whole (good k within).value)

  -- its name
  stands : (k : ℕ) → k < length object.symbols
      → drop (symbol_at bytes (suc k)).name (symbol_names bytes) ≡ (of k).name ++ (0 ∷ names_after object.symbols k)
  unfolding written_entry
  stands k within = ap (λ (e : Entry). drop e.name (symbol_names bytes)) (entry_is k within)
      ∙ ap (λ (names : List ℕ). drop (symbol_name_place object.symbols k) names) (symbol_names_are object bytes are)
      ∙ name_stands object.symbols k within

  pub name_is : (k : ℕ) → k < length object.symbols → name_of bytes (suc k) ≡ (of k).name
  unfolding name_of stored_name written_entry
  name_is k within =
      let kind : ((symbol_at bytes (suc k)).info % 16 == 3) ≡ false =
      ap (λ (e : Entry). e.info % 16 == 3) (entry_is k within) ∙ ap (λ n. n == 3) (type_by (of k).binding) in
      let name = before_end (of k).name (names_after object.symbols k) (good k within).unended in
      rw kind (ap (λ (xs : List ℕ). before_first (λ byte. byte == 0) xs) (stands k within) ∙ name)

  well : (k : ℕ) → k < length object.symbols → is_well_named bytes (suc k) ≡ true
  well k within =
      well_named bytes (suc k) ((of k).name
      ++ (0 ∷ names_after object.symbols k)) (of k).name (sym (stands k within)) (ends (of k).name _)
      (sym (before_end (of k).name _ (good k within).unended)) (whole.limits.names k no_symbol within) (good k
      within).text

  -- it is kept
  pub kept_is : (k : ℕ) → k < length object.symbols → is_left_out bytes (suc k) ≡ false
  unfolding is_left_out written_entry
  kept_is k within =
      let some : (suc k == 0) ≡ false = ne_eqb _ _ (λ none. absurd (omega arith)) in
      let symbol = of k in
      let is = entry_is k within in
      let kind : ((symbol_at bytes (suc k)).info % 16 == 4) ≡ false = ap (λ (e : Entry). e.info % 16 == 4) is
      ∙ ap (λ n. n == 4) (type_by symbol.binding) in
      let there : (is_in_section bytes (symbol_at bytes (suc k))
      && not (is_loaded bytes (symbol_at bytes (suc k)).section)) ≡ false
      = ap (λ (e : Entry). is_in_section bytes e && not (is_loaded bytes e.section)) is
      ∙ ap (λ b. b && not (is_loaded bytes (section_number symbol.place))) (in_section object bytes has
      symbol.place) ∙ loaded_there object bytes has symbol.place in
      rw (some, kind) there

  -- it breaks no rule
  definition_is : (k : ℕ) → k < length object.symbols → is_definition_at bytes (suc k) ≡ whole_specs.is_definition (of k)
  unfolding is_definition_at written_entry
  definition_is k within = ap (λ (e : Entry). (e.info / 16 == 1 || e.info / 16 == 2)
      && not (e.section == 0)) (entry_is k within) ∙ definition_by (of k).binding (of k).place

  first_no : is_definition_at bytes 0 ≡ false
  unfolding is_definition_at
  first_no = ap (λ (e : Entry). (e.info / 16 == 1 || e.info / 16 == 2)
      && not (e.section == 0)) (symbol_zero object bytes are)

  bad_info : (k : ℕ) → k < length object.symbols → is_bad_info bytes (suc k) ≡ false
  unfolding is_bad_info written_entry
  bad_info k within = ap (λ (e : Entry). e.info % 16 == 6 || nat_lt 2 (e.info / 16)) (entry_is k within)
      ∙ info_by (of k).binding

  bad_place : (k : ℕ) → k < length object.symbols → is_bad_place bytes (suc k) ≡ false
  unfolding is_bad_place written_entry
  bad_place k within = ap (λ (e : Entry). not (e.section == 0 || e.section == 0xfff1 || e.section == 0xfff2
      || nat_lt e.section (section_count bytes))) (entry_is k within)
      ∙ place_there object bytes has (of k).place

  nameless : (k : ℕ) → k < length object.symbols → is_nameless bytes (suc k) ≡ false
  unfolding is_nameless written_entry
  nameless k within = ap (λ (e : Entry). (e.info / 16 == 1 || e.info / 16 == 2)
      && length (name_of bytes (suc k)) == 0) (entry_is k within)
      ∙ ap (λ (name : List ℕ). ((16 * binding_number (of k).binding) / 16 == 1
      || (16 * binding_number (of k).binding) / 16 == 2) && length name == 0) (name_is k within)
      ∙ named_by (of k).binding (of k).name (good k within).named

  local_undefined : (k : ℕ) → k < length object.symbols → is_local_undefined bytes (suc k) ≡ false
  unfolding is_local_undefined written_entry
  local_undefined k within = ap (λ b. not b && (symbol_at bytes (suc k)).info / 16 == 0
      && (symbol_at bytes (suc k)).section == 0) (kept_is k within)
      ∙ ap (λ (e : Entry). e.info / 16 == 0 && e.section == 0) (entry_is k within)
      ∙ defined_by (of k).binding (of k).place (good k within).placed

  past_section : (k : ℕ) → k < length object.symbols → is_past_section bytes (suc k) ≡ false
  unfolding is_past_section written_entry
  past_section k within = ap (λ (e : Entry). is_in_section bytes e && is_loaded bytes e.section
      && nat_lt (section_at bytes e.section).size e.value) (entry_is k within)
      ∙ ap (λ b. b && is_loaded bytes (section_number (of k).place)
      && nat_lt (section_at bytes (section_number (of k).place)).size (of k).value) (in_section object bytes has (of
      k).place)
      ∙ not_past object bytes has (of k).place (of k).value (good k within).value

  pub common : (k : ℕ) → k < length object.symbols → is_common bytes (suc k) ≡ false
  unfolding is_common written_entry
  common k within = ap (λ (e : Entry). e.section == 0xfff2) (entry_is k within) ∙ common_by (of k).place

  -- no earlier symbol defines its name
  not_again : (k : ℕ) → k < length object.symbols → whole_specs.is_definition (of k) ≡ true → (j : ℕ) → j < suc k
      → defines bytes (name_of bytes (suc k)) j ≡ false
  unfolding defines
  not_again k within mine zero below = ap (λ b. b && bytes_eq (name_of bytes 0) (name_of bytes (suc k))) first_no
  not_again k within mine (suc j) below = ⊎_elim
      (λ (is : is_definition_at bytes (suc j) ≡ true).
      let earlier : j < length object.symbols = omega arith in
      let theirs : whole_specs.is_definition (of j) ≡ true = sym (definition_is j earlier) ∙ is in
      let apart = whole.apart j k (omega arith) within theirs mine in
      let names : bytes_eq (name_of bytes (suc j)) (name_of bytes (suc k)) ≡ bytes_eq (of j).name (of k).name
      = ap (λ (xs : List ℕ). bytes_eq xs (name_of bytes (suc k))) (name_is j earlier)
      ∙ ap (λ (xs : List ℕ). bytes_eq (of j).name xs) (name_is k within) in
      rw is (names ∙ different (of j).name (of k).name apart))
      (λ (not_one : is_definition_at bytes (suc j) ≡ false). rw not_one refl)
      (cases_Bool (is_definition_at bytes (suc j)))

  second : (k : ℕ) → k < length object.symbols → is_second_definition bytes (suc k) ≡ false
  unfolding is_second_definition defines
  second k within = ⊎_elim
      (λ (is : is_definition_at bytes (suc k) ≡ true).
      let mine : whole_specs.is_definition (of k) ≡ true = sym (definition_is k within) ∙ is in
      let none : some_below (defines bytes (name_of bytes (suc k))) (suc k) ≡ false =
      none_below (defines bytes (name_of bytes (suc k))) (suc k) (λ j below. not_again k within mine j below) in
      rw is none)
      (λ (not_one : is_definition_at bytes (suc k) ≡ false). rw not_one refl)
      (cases_Bool (is_definition_at bytes (suc k)))

  pub good_symbol : (k : ℕ) → k < length object.symbols → is_bad_symbol bytes (suc k) ≡ false
  unfolding is_bad_symbol
  good_symbol k within = rw (
    bad_info k within,
    bad_place k within,
    well k within,
    nameless k within,
    local_undefined k
        within,
    past_section k within,
  ) (second k within)

  first_well : is_well_named bytes 0 ≡ true
  unfolding name_table
  first_well =
      let names = name_table object.symbols in
      let there : drop (symbol_at bytes 0).name (symbol_names bytes) ≡ names
      = ap (λ (e : Entry). drop e.name (symbol_names bytes)) (symbol_zero object bytes are)
      ∙ symbol_names_are object bytes are in
      well_named bytes 0 names [] (sym there) refl refl (omega arith) IsUtf8-nil

  pub good_first : is_bad_symbol bytes 0 ≡ false
  unfolding is_bad_symbol is_bad_info is_bad_place is_nameless is_local_undefined is_left_out is_past_section
      is_second_definition
  good_first =
      let zero_is = symbol_zero object bytes are in
      let info : is_bad_info bytes 0 ≡ false = ap (λ (e : Entry). e.info % 16 == 6 || nat_lt 2 (e.info / 16)) zero_is in
      let place : is_bad_place bytes 0 ≡ false =
      ap (λ (e : Entry). not (e.section == 0 || e.section == 0xfff1 || e.section == 0xfff2
      || nat_lt e.section (section_count bytes))) zero_is in
      let name : is_nameless bytes 0 ≡ false =
      ap (λ (e : Entry). (e.info / 16 == 1 || e.info / 16 == 2) && length (name_of bytes 0) == 0) zero_is in
      let defined : is_local_undefined bytes 0 ≡ false = refl in
      let past : is_past_section bytes 0 ≡ false =
      ap (λ (e : Entry). is_in_section bytes e && is_loaded bytes e.section
      && nat_lt (section_at bytes e.section).size e.value) zero_is in
      let again : is_second_definition bytes 0 ≡ false =
      ap (λ b. b && some_below (defines bytes (name_of bytes 0)) 0) first_no in
      rw (info, place, first_well, name, defined, past) again

  pub first_common : is_common bytes 0 ≡ false
  unfolding is_common
  first_common = ap (λ (e : Entry). e.section == 0xfff2) (symbol_zero object bytes are)

  pub first_left : is_left_out bytes 0 ≡ true
  unfolding is_left_out
  first_left = refl
