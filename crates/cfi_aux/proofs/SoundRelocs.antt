-- The relocations that are kept of a sound file break no rule.
use Rattle.std.proofs.Common.{◌≡◌, ◌+◌, ◌%◌, ◌<◌, ◌≤◌, ◌==◌, ◌&&◌, ◌||◌, not, ℕ, zero, suc, List, [], ◌∷◌, length, Bool, true, false, All, nat_lt, refl, sym, ap, ◌∙◌, inl, inr, arith, length-append}
use Rattle.std.proofs.lemmas.Bool.{cases_Bool, eqb-true, ltb-true, ltb-false, not-false, cases_lt}
use Rattle.std.proofs.lemmas.List.Elements.{All-from_recursion}
use Rattle.elf_read.specs.Places.{joined, count_where}
use Rattle.elf_read.specs.Header.{section_count}
use Rattle.elf_read.specs.Section.{section_at, is_loaded, is_text, is_data}
use Rattle.elf_read.specs.Symbol.{symbol_count, is_left_out}
use Rattle.elf_read.specs.Relocation.{rela_count, rela_at, symbol_index, kind_of, field_size, is_known, is_dropped, is_of_data, is_of_instruction, is_bad_rela_at, is_bad_reference, is_outside, is_misplaced, is_unknown_at}
use Rattle.elf_read.specs.Join.{text_size, text_end, data_start, start_of}
use Rattle.elf_read.specs.Object.{kept_symbol, symbols_of, symbol_number, reference_of, area_of, kept_reloc, reloc_of, relocs_of}
use Rattle.elf_read.specs.Fault.{IsSound}
use Rattle.elf_read.specs.declared.object.Object.{Object}
use Rattle.elf_read.proofs.SectionLemmas.{or_false, and_false}
use Rattle.elf_read.proofs.RelaLemmas.{rela_there, rela_target}
use Rattle.elf_read.proofs.JoinLemmas.{total_of-part, data_end-part, loaded_cases}
use Rattle.elf_read.specs.Sound.{HasField, HasSymbol, IsSoundReloc}
use Rattle.cfi_aux.proofs.JoinedLists.{joined_all, text_fours}
use Rattle.cfi_aux.proofs.SoundSymbols.{HasSizes, out_adds, kept_adds}

-- ---- numbers of symbols

count_more : (test : ℕ → Bool) (k count : ℕ) → k < count → test k ≡ true → count_where test k < count_where test count
count_more test k zero lt is = absurd (omega arith)
count_more test k (suc count) lt is =
    elim (cases_lt k count) [
      | inl below ↦ omega (arith, count_more test k count below is)
      | inr last ↦
          let same : k ≡ count = omega arith in
          let here : test count ≡ true = ap test (sym same) ∙ is in
          let before : count_where test k ≡ count_where test count = ap (count_where test) same in
          rw here (omega (arith, before))
    ]

pub symbols_length : (bytes : List ℕ) (count : ℕ) → length (joined (symbols_of bytes) count) ≡ symbol_number bytes count
unfolding symbol_number
symbols_length bytes zero = refl
symbols_length bytes (suc count) =
    let before = symbols_length bytes count in
    let front = joined (symbols_of bytes) count in
    elim (cases_Bool (is_left_out bytes count)) [
      | inl out ↦ rw (out, out_adds bytes count out) (omega (arith, before, length-append front []))
      | inr kept ↦ rw (kept, kept_adds bytes count kept)
          (omega (arith, before, length-append front (kept_symbol bytes count ∷ [])))
    ]

number_below : (bytes : List ℕ) (k : ℕ) → k < symbol_count bytes → is_left_out bytes k ≡ false
    → symbol_number bytes k < symbol_number bytes (symbol_count bytes)
unfolding symbol_number
number_below bytes k within kept =
    let test : ℕ → Bool = λ j. not (is_left_out bytes j) in
    let here : test k ≡ true = rw kept refl in
    count_more test k (symbol_count bytes) within here

-- ---- one relocation

record IsGoodRela (bytes : List ℕ) (s i : ℕ) : Type 0 where
  pub reference : is_bad_reference bytes (rela_at bytes s i) ≡ false
  pub inside : is_outside bytes (section_at bytes s).info (rela_at bytes s i) ≡ false
  pub placed : is_misplaced bytes (section_at bytes s).info (rela_at bytes s i) ≡ false

good_rela : (bytes : List ℕ) (s i : ℕ) → IsSound bytes → s < section_count bytes → i < rela_count bytes s
    → IsGoodRela bytes s i
unfolding is_bad_rela_at
good_rela bytes s i sound within entry =
    let rela = rela_at bytes s i in
    let target = (section_at bytes s).info in
    let good = sound.places.kinds.relas.good s within i entry in
    let two = or_false (is_bad_reference bytes rela || is_outside bytes target rela) (is_misplaced bytes target rela)
    good in
    let one = or_false (is_bad_reference bytes rela) (is_outside bytes target rela) two.0 in
    record { reference = one.0; inside = one.1; placed = two.1 }

known_kind : (bytes : List ℕ) (s i : ℕ) → IsSound bytes → s < section_count bytes → i < rela_count bytes s
    → is_known (kind_of (rela_at bytes s i)) ≡ true
unfolding is_unknown_at
known_kind bytes s i sound within entry = not-false _ (sound.places.kinds.known s within i entry)

reference_good : (bytes : List ℕ) (s i : ℕ) → IsGoodRela bytes s i → (symbol_index (rela_at bytes s i) == 0) ≡ false
    → (symbol_index (rela_at bytes s i) < symbol_count bytes) × (is_left_out bytes (symbol_index (rela_at bytes s i)) ≡ false)
unfolding is_bad_reference
reference_good bytes s i good some =
    let symbol = symbol_index (rela_at bytes s i) in
    let named : not (symbol == 0) ≡ true = rw some refl in
    let parts = or_false (not (nat_lt symbol (symbol_count bytes))) (is_left_out bytes symbol)
    (and_false (not (symbol == 0)) (not (nat_lt symbol (symbol_count bytes)) || is_left_out bytes symbol) named
    good.reference) in
    (ltb-true _ _ (not-false _ parts.0), parts.1)

symbol_there : (bytes : List ℕ) (object : Object) (s i : ℕ) → IsGoodRela bytes s i
    → length object.symbols ≡ symbol_number bytes (symbol_count bytes) → HasSymbol object (reference_of bytes s i)
unfolding reference_of
symbol_there bytes object s i good count =
    elim (cases_Bool (symbol_index (rela_at bytes s i) == 0)) [
      | inl none ↦ rw none tt
      | inr some ↦
          let there = reference_good bytes s i good some in
          rw some (omega (arith, number_below bytes (symbol_index (rela_at bytes s i)) there.0 there.1, count))
    ]

-- the rules of the area
text_rules : (bytes : List ℕ) (s i : ℕ) → IsGoodRela bytes s i → is_text bytes (section_at bytes s).info ≡ true
    → ((rela_at bytes s i).offset % 4 ≡ 0) × (is_of_data (kind_of (rela_at bytes s i)) ≡ false)
unfolding is_misplaced
text_rules bytes s i good is =
    let rela = rela_at bytes s i in
    let target = (section_at bytes s).info in
    let first = (or_false (is_text bytes target && (not (rela.offset % 4 == 0) || is_of_data (kind_of rela)))
    (is_data bytes target && is_of_instruction (kind_of rela)) good.placed).0 in
    let parts = or_false (not (rela.offset % 4 == 0)) (is_of_data (kind_of rela))
    (and_false (is_text bytes target) (not (rela.offset % 4 == 0) || is_of_data (kind_of rela)) is first) in
    (eqb-true _ _ (not-false _ parts.0), parts.1)

data_rules : (bytes : List ℕ) (s i : ℕ) → IsGoodRela bytes s i → is_data bytes (section_at bytes s).info ≡ true
    → is_of_instruction (kind_of (rela_at bytes s i)) ≡ false
unfolding is_misplaced
data_rules bytes s i good is =
    let rela = rela_at bytes s i in
    let target = (section_at bytes s).info in
    let second = (or_false (is_text bytes target && (not (rela.offset % 4 == 0) || is_of_data (kind_of rela)))
    (is_data bytes target && is_of_instruction (kind_of rela)) good.placed).1 in
    and_false (is_data bytes target) (is_of_instruction (kind_of rela)) is second

field_inside : (bytes : List ℕ) (s i : ℕ) → IsGoodRela bytes s i
    → (rela_at bytes s i).offset + field_size (kind_of (rela_at bytes s i)) ≤ (section_at bytes
    (section_at bytes s).info).size
unfolding is_outside
field_inside bytes s i good = ltb-false _ _ good.inside

text_field : (bytes : List ℕ) (object : Object) (s i : ℕ) → IsSound bytes → HasSizes bytes object → IsGoodRela bytes s i
    → (section_at bytes s).info < section_count bytes → is_text bytes (section_at bytes s).info ≡ true
    → (start_of bytes (section_at bytes s).info + (rela_at bytes s i).offset + field_size (kind_of (rela_at bytes s i))
    ≤ length object.text)
    × ((start_of bytes (section_at bytes s).info + (rela_at bytes s i).offset) % 4 ≡ 0)
unfolding start_of text_size
text_field bytes object s i sound sizes good there is =
    let target = (section_at bytes s).info in
    let start : start_of bytes target ≡ text_end bytes target = rw is refl in
    let size : text_size bytes target ≡ (section_at bytes target).size = rw is refl in
    let part = total_of-part (text_size bytes) target (section_count bytes) there in
    let four = text_fours bytes target sound (omega arith) in
    let rules = text_rules bytes s i good is in
    (omega (arith, start, size, part, field_inside bytes s i good, sizes.text), omega (arith, start, four, rules.0))

data_field : (bytes : List ℕ) (object : Object) (s i : ℕ) → HasSizes bytes object → IsGoodRela bytes s i
    → (section_at bytes s).info < section_count bytes → is_text bytes (section_at bytes s).info ≡ false
    → is_data bytes (section_at bytes s).info ≡ true
    → start_of bytes (section_at bytes s).info + (rela_at bytes s i).offset + field_size (kind_of (rela_at bytes s i))
    ≤ length object.static_data
unfolding start_of
data_field bytes object s i sizes good there other is =
    let target = (section_at bytes s).info in
    let start : start_of bytes target ≡ data_start bytes target = rw other refl in
    let part = data_end-part bytes target (section_count bytes) there is in
    omega (arith, start, part, field_inside bytes s i good, sizes.static_data)

has_field : (bytes : List ℕ) (object : Object) (s i : ℕ) → IsSound bytes → HasSizes bytes object → IsGoodRela bytes s i
    → (section_at bytes s).info < section_count bytes → is_loaded bytes (section_at bytes s).info ≡ true
    → HasField object (area_of bytes s) (kind_of (rela_at bytes s i))
    (start_of bytes (section_at bytes s).info + (rela_at bytes s i).offset)
unfolding area_of
has_field bytes object s i sound sizes good there loaded =
    elim (cases_Bool (is_text bytes (section_at bytes s).info)) [
      | inl is ↦
          let field = text_field bytes object s i sound sizes good there is in
          rw is (field.0, field.1, (text_rules bytes s i good is).1)
      | inr other ↦
          let is = loaded_cases bytes (section_at bytes s).info loaded other in
          rw other (data_field bytes object s i sizes good there other is, data_rules bytes s i good is)
    ]

reloc_sound : (bytes : List ℕ) (object : Object) (s i : ℕ) → IsSound bytes → HasSizes bytes object
    → length object.symbols ≡ symbol_number bytes (symbol_count bytes) → s < section_count bytes
    → i < rela_count bytes s
    → is_dropped (kind_of (rela_at bytes s i)) ≡ false → IsSoundReloc object (kept_reloc bytes s i)
unfolding kept_reloc
reloc_sound bytes object s i sound sizes count within entry kept =
    let good = good_rela bytes s i sound within entry in
    let target = rela_target bytes s (rela_there bytes s (omega arith)) in
    record {
      known = known_kind bytes s i sound within entry;
      kept = kept;
      symbol = symbol_there bytes object s i good count;
      field = has_field bytes object s i sound sizes good target.0 target.1;
    }

-- ---- all of them

one_reloc : (bytes : List ℕ) (object : Object) (s i : ℕ) → IsSound bytes → HasSizes bytes object
    → length object.symbols ≡ symbol_number bytes (symbol_count bytes) → s < section_count bytes
    → i < rela_count bytes s
    → All (IsSoundReloc object) (reloc_of bytes s i)
unfolding reloc_of
one_reloc bytes object s i sound sizes count within entry =
    elim (cases_Bool (is_dropped (kind_of (rela_at bytes s i)))) [
      | inl out ↦ rw out (All-from_recursion (IsSoundReloc object) [] tt)
      | inr kept ↦ rw kept (All-from_recursion (IsSoundReloc object) (kept_reloc bytes s i ∷ [])
          (reloc_sound bytes object s i sound sizes count within entry kept, tt))
    ]

section_relocs : (bytes : List ℕ) (object : Object) (s : ℕ) → IsSound bytes → HasSizes bytes object
    → length object.symbols ≡ symbol_number bytes (symbol_count bytes) → s < section_count bytes
    → All (IsSoundReloc object) (relocs_of bytes s)
unfolding relocs_of
section_relocs bytes object s sound sizes count within =
    joined_all (IsSoundReloc object) (reloc_of bytes s) (rela_count bytes s)
    (λ i entry. one_reloc bytes object s i sound sizes count within entry)

pub relocs_sound : (bytes : List ℕ) (object : Object) → IsSound bytes → HasSizes bytes object
    → length object.symbols ≡ symbol_number bytes (symbol_count bytes)
    → All (IsSoundReloc object) (joined (relocs_of bytes) (section_count bytes))
relocs_sound bytes object sound sizes count =
    joined_all (IsSoundReloc object) (relocs_of bytes) (section_count bytes)
    (λ s within. section_relocs bytes object s sound sizes count within)
