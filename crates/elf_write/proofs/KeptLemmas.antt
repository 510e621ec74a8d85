-- The symbols that the reader keeps of a written file are those of the object.
use Rattle.std.proofs.Common.{◌≡◌, ◌==◌, not, ◌+◌, ◌*◌, ◌/◌, ◌<◌, ◌≤◌, ◌++◌, ℕ, zero, suc, cond, List, [], ◌∷◌, length, get_or, refl, ap, ◌∙◌, arith}
use Rattle.elf_read.specs.Section.{is_text}
use Rattle.elf_read.specs.Places.{joined}
use Rattle.elf_read.specs.Symbol.{symbol_count, is_left_out, is_in_section}
use Rattle.elf_read.specs.Join.{start_of}
use Rattle.elf_read.specs.Object.{kept_binding, kept_place, kept_value, kept_symbol, symbols_of, symbol_number}
use Rattle.elf_read.specs.declared.symbol.Entry.{Entry}
use Rattle.elf_read.specs.declared.object.Object.{Object}
use Rattle.elf_read.specs.declared.object.Symbol.{Symbol}
use Rattle.elf_read.specs.declared.object.Binding.{Binding}
use Rattle.elf_read.specs.declared.object.Binding.TheVariants as bindings
use Rattle.elf_read.specs.declared.object.Place.{Place}
use Rattle.elf_read.specs.declared.object.Place.TheVariants as places
use Rattle.elf_write.specs.Contents.{no_symbol, binding_number, section_number}
use Rattle.elf_write.specs.File.{IsWritable}
use Rattle.elf_write.specs.Whole.{IsWhole}
use Rattle.elf_write.proofs.SectionLemmas.{AreSections}
use Rattle.elf_write.proofs.KindLemmas.{enough, text_at}
use Rattle.elf_write.proofs.ListLemmas.{joined-list, joined-first}
use Rattle.elf_write.proofs.EntryLemmas.{written_entry, symbol_count_is}
use Rattle.elf_write.proofs.RuleLemmas.{entry_is, name_is, kept_is, first_left}
use Rattle.elf_write.proofs.InfoLemmas.{has_loaded, in_by, in_section}
use Rattle.elf_write.proofs.JoinLemmas.{text_starts, data_starts}

binding_back : (binding : Binding)
    → cond ((16 * binding_number binding) / 16 == 0) bindings.Local (cond ((16 * binding_number binding) / 16 == 1)
    bindings.Global bindings.Weak) ≡ binding
binding_back bindings.Local = refl
binding_back bindings.Global = refl
binding_back bindings.Weak = refl

module _ (object : Object) (bytes : List ℕ) (are : AreSections object bytes) where
  place_back : (place : Place) → cond (section_number place == 0) places.Undefined (cond (section_number place ==
      0xfff1) places.Absolute
      (cond (is_text bytes (section_number place)) places.Text places.Data)) ≡ place
  place_back places.Undefined = refl
  place_back places.Absolute = refl
  place_back places.Text = ap (λ b. cond b places.Text places.Data) (text_at object bytes are 1
      (omega (arith, enough object bytes are)))
  place_back places.Data = ap (λ b. cond b places.Text places.Data) (text_at object bytes are 2
      (omega (arith, enough object bytes are)))

  value_back : (place : Place) (value : ℕ)
      → cond (in_by place) (start_of bytes (section_number place) + value) value ≡ value
  unfolding in_by
  value_back places.Undefined value = refl
  value_back places.Absolute value = refl
  value_back places.Text value = omega (arith, text_starts object bytes are)
  value_back places.Data value = omega (arith, data_starts object bytes are)

module _ (object : Object) (bytes : List ℕ) (are : AreSections object bytes) (whole : IsWhole object) (fits :
    IsWritable object) where
  symbol_back : (k : ℕ) → k < length object.symbols → kept_symbol bytes (suc k) ≡ get_or object.symbols k no_symbol
  unfolding kept_symbol kept_binding kept_place kept_value written_entry
  symbol_back k within =
      let symbol = get_or object.symbols k no_symbol in
      let is = entry_is object bytes are whole fits k within in
      let name = name_is object bytes are whole fits k within in
      let binding = ap (λ (e : Entry). cond (e.info / 16 == 0) bindings.Local (cond (e.info / 16 == 1) bindings.Global
      bindings.Weak)) is ∙ binding_back symbol.binding in
      let place = ap (λ (e : Entry). cond (e.section == 0) places.Undefined (cond (e.section == 0xfff1) places.Absolute
      (cond (is_text bytes e.section) places.Text places.Data))) is
      ∙ place_back object bytes are symbol.place in
      let value = ap (λ (e : Entry). cond (is_in_section bytes e) (start_of bytes e.section + e.value) e.value) is
      ∙ ap (λ b. cond b (start_of bytes (section_number symbol.place)
      + symbol.value) symbol.value) (in_section object bytes (has_loaded object bytes are) symbol.place)
      ∙ value_back object bytes are symbol.place symbol.value in
      λ i. record { name = name i; binding = binding i; place = place i; value = value i }

  one_symbol : (k : ℕ) → k < length object.symbols → symbols_of bytes (suc k) ≡ get_or object.symbols k no_symbol ∷ []
  unfolding symbols_of
  one_symbol k within =
      ap (λ b. cond b [] (kept_symbol bytes (suc k) ∷ [])) (kept_is object bytes are whole fits k within)
      ∙ ap (λ (s : Symbol). s ∷ []) (symbol_back k within)

  none_first : symbols_of bytes 0 ≡ []
  unfolding symbols_of
  none_first = ap (λ b. cond b [] (kept_symbol bytes 0 ∷ [])) (first_left object bytes are whole fits)

  pub symbols_are : joined (symbols_of bytes) (symbol_count bytes) ≡ object.symbols
  symbols_are =
      ap (λ n. joined (symbols_of bytes) n) (symbol_count_is object bytes are)
      ∙ joined-first (symbols_of bytes) (length object.symbols)
      ∙ ap (λ xs. xs ++ joined (λ k. symbols_of bytes (suc k)) (length object.symbols)) none_first
      ∙ joined-list (λ k. symbols_of bytes (suc k)) object.symbols no_symbol one_symbol

  -- symbol k + 1 has number k
  pub number_is : (k : ℕ) → k ≤ length object.symbols → symbol_number bytes (suc k) ≡ k
  unfolding symbol_number
  number_is zero within = ap (λ b. 0 + cond (not b) 1 0) (first_left object bytes are whole fits)
  number_is (suc k) within =
      let before = number_is k (omega arith) in
      let one : ℕ = cond (not (is_left_out bytes (suc k))) 1 0 in
      let last : one ≡ 1 = ap (λ b. cond (not b) 1 0) (kept_is object bytes are whole fits k (omega arith)) in
      omega (arith, before, last)

  pub kept_count_is : symbol_number bytes (symbol_count bytes) ≡ length object.symbols
  kept_count_is = ap (λ n. symbol_number bytes n) (symbol_count_is object bytes are)
      ∙ number_is (length object.symbols) (omega arith)
