-- The bytes of a whole object are that object.
use Rattle.std.proofs.Common.{◌≡◌, ◌==◌, ◌||◌, ◌+◌, ◌<◌, ℕ, zero, suc, Bool, true, false, cond, List, length, refl, sym, ap, ◌∙◌, arith, ⊎_elim, not}
use Rattle.std.proofs.lemmas.Bool.{cases_Bool, eqb-true}
use Rattle.elf_read.specs.Places.{IsNone}
use Rattle.elf_read.specs.Header.{section_count, names_number, HasTable}
use Rattle.elf_read.specs.Section.{section_at, is_rela}
use Rattle.elf_read.specs.Symbol.{is_bad_symbol, is_common}
use Rattle.elf_read.specs.Relocation.{rela_count, rela_at, kind_of, is_dropped, is_bad_rela_at, is_unknown_at, IsNoRela}
use Rattle.elf_read.specs.Object.{kept_count, reloc_of, relocs_of}
use Rattle.elf_read.specs.Fault.{HasNames, HasSections, HasSymbols, HasPlaces, IsSound, IsObject, kept_relocs}
use Rattle.elf_read.specs.declared.section.Section.{Section}
use Rattle.elf_read.specs.declared.object.Object.{Object}
use Rattle.elf_read.specs.declared.object.Area.TheVariants as areas
use Rattle.elf_write.specs.File.{sections_of, extra_of, section_place, bytes_of, IsWritable}
use Rattle.elf_write.specs.Whole.{IsWhole}
use Rattle.elf_write.proofs.LimitLemmas.{writable}
use Rattle.elf_write.proofs.HeaderLemmas.{few_sections}
use Rattle.elf_write.proofs.SectionLemmas.{AreSections, are_sections, written_section}
use Rattle.elf_write.proofs.KindLemmas.{count_is, enough}
use Rattle.elf_write.proofs.ListLemmas.{total-length, count-length}
use Rattle.elf_write.proofs.EntryLemmas.{symbol_count_is}
use Rattle.elf_write.proofs.RuleLemmas.{good_symbol, good_first, common, first_common}
use Rattle.elf_write.proofs.KeptLemmas.{symbols_are, kept_count_is}
use Rattle.elf_write.proofs.JoinLemmas.{text_is, text_end_is, data_is, data_end_is}
use Rattle.elf_write.proofs.RelocLemmas.{rela_count_is, good_rela, known_kind}
use Rattle.elf_write.proofs.RelaLemmas.{of_area, rela_at_number, has_text, has_data, all_relocs}
use Rattle.elf_write.proofs.GoodLemmas.{good_section, not_short, types_are, records_are}

module _ (object : Object) (bytes : List ℕ) (are : AreSections object bytes) (whole : IsWhole object) (fits :
    IsWritable object) where
  has_table : HasTable bytes
  has_table = record {
    header = record {
      whole = omega (arith, are.room);
      elf = are.header.elf;
      machine = are.header.machine;
      kind =
          are.header.kind;
    };
    few = omega (arith, few_sections object, count_is object bytes are);
    table = omega (arith, are.room, are.header.table, count_is object bytes are);
  }

  has_names : HasNames bytes
  unfolding written_section
  has_names =
      let count = count_is object bytes are in
      let some = enough object bytes are in
      let number = names_number bytes in
      let last : number < length (sections_of object) = omega (arith, are.header.names, some) in
      let place : (section_at bytes number).offset ≡ section_place object number =
      ap (λ (s : Section). s.offset) (are.each number last) in
      let size = ap (λ (s : Section). s.size) (are.each number last) in
      record {
        shape = record { table = has_table; size = are.header.entry; names = omega (arith, last, count) };
        names = omega (arith, place, size, are.inside number last);
      }

  has_sections : HasSections bytes
  has_sections = record {
    contents = record { names = has_names; whole = λ k within. not_short object bytes are whole fits k within };
    good = λ k within. good_section object bytes are whole fits k within;
  }

  each_symbol : (test : ℕ → Bool) → test 0 ≡ false → ((k : ℕ) → k < length object.symbols → test (suc k) ≡ false)
      → (k : ℕ) → k < suc (length object.symbols) → test k ≡ false
  each_symbol test first later zero within = first
  each_symbol test first later (suc k) within = later k (omega arith)

  has_symbols_good : HasSymbols bytes
  has_symbols_good = record {
    sections = has_sections;
    good = λ k within. each_symbol (is_bad_symbol bytes) (good_first object bytes are whole fits) (good_symbol object
        bytes are whole fits) k (omega (arith, within, symbol_count_is object bytes are));
  }

  -- what holds of the entries of both sections of relocations holds of all
  each_rela : (test : ℕ → ℕ → Bool) → IsNone (test (3 + extra_of object)) (length (of_area object areas.Text))
      → IsNone (test (4 + extra_of object)) (length (of_area object areas.Data))
      → IsNoRela bytes test (section_count bytes)
  unfolding rela_count
  each_rela test text static_data s within i entry = ⊎_elim
      (λ (first : (s == 3 + extra_of object) ≡ true).
      let same : s ≡ 3 + extra_of object = eqb-true _ _ first in
      let count = ap (λ n. rela_count bytes n) same
      ∙ rela_count_is object bytes are whole fits areas.Text _ _ _ (has_text object bytes are whole fits) in
      ap (λ n. test n i) same ∙ text i (omega (arith, entry, count)))
      (λ (not_first : (s == 3 + extra_of object) ≡ false). ⊎_elim
      (λ (second : (s == 4 + extra_of object) ≡ true).
      let same : s ≡ 4 + extra_of object = eqb-true _ _ second in
      let count = ap (λ n. rela_count bytes n) same
      ∙ rela_count_is object bytes are whole fits areas.Data _ _ _ (has_data object bytes are whole fits) in
      ap (λ n. test n i) same ∙ static_data i (omega (arith, entry, count)))
      (λ (not_second : (s == 4 + extra_of object) ≡ false).
      let either : (s == 3 + extra_of object || s == 4 + extra_of object) ≡ false = rw (not_first, not_second) refl in
      let none : is_rela bytes s ≡ false =
      rela_at_number object bytes are whole fits s (omega (arith, within, count_is object bytes are)) ∙ either in
      let empty : rela_count bytes s ≡ 0 = rw none refl in
      absurd (omega (arith, entry, empty)))
      (cases_Bool (s == 4 + extra_of object)))
      (cases_Bool (s == 3 + extra_of object))

  has_places : HasPlaces bytes
  has_places = record {
    kinds = record {
      relas = record {
        symbols = has_symbols_good;
        good = each_rela (is_bad_rela_at bytes) (good_rela object bytes are whole fits areas.Text _ _ _ (has_text
            object bytes are whole fits))
            (good_rela object bytes are whole fits areas.Data _ _ _ (has_data object bytes are whole fits));
      };
      known = each_rela (is_unknown_at bytes) (known_kind object bytes are whole fits areas.Text _ _ _ (has_text object
          bytes are whole fits))
          (known_kind object bytes are whole fits areas.Data _ _ _ (has_data object bytes are whole fits));
    };
    placed = λ k within. each_symbol (is_common bytes) (first_common object bytes are whole fits) (common object bytes
        are whole fits) k (omega (arith, within, symbol_count_is object bytes are));
  }

  one_or_none : (s i : ℕ) → length (reloc_of bytes s i) ≡ cond (not (is_dropped (kind_of (rela_at bytes s i)))) 1 0
  unfolding reloc_of
  one_or_none s i = ⊎_elim (λ (is : is_dropped (kind_of (rela_at bytes s i)) ≡ true). rw is refl)
      (λ (kept : is_dropped (kind_of (rela_at bytes s i)) ≡ false). rw kept refl)
      (cases_Bool (is_dropped (kind_of (rela_at bytes s i))))

  relocs_counted : kept_relocs bytes ≡ length object.relocs
  unfolding kept_count relocs_of
  relocs_counted =
      total-length (kept_count bytes) (relocs_of bytes) (section_count bytes)
      (λ s within. count-length (λ i. not (is_dropped (kind_of (rela_at bytes s i)))) (reloc_of bytes s) (rela_count
      bytes s) (λ i entry. one_or_none s i))
      ∙ ap length (all_relocs object bytes are whole fits)

  is_sound : IsSound bytes
  is_sound = record {
    places = has_places;
    symbols = omega (arith, kept_count_is object bytes are whole fits, whole.limits.symbols);
    relocs = omega (arith, relocs_counted, whole.limits.relocs);
    words = omega (arith, text_end_is object bytes are, whole.limits.text);
    data_size = omega (arith, data_end_is object bytes are, whole.limits.static_data);
  }

  pub is_object : IsObject bytes object
  is_object = record {
    sound = is_sound;
    kept = record {
      text = sym (text_is object bytes are);
      static_data = sym (data_is object bytes are);
      symbols = sym (symbols_are object bytes are whole fits);
      relocs = sym (all_relocs object bytes are whole fits);
      types = sym (types_are object bytes are whole fits);
      records = sym (records_are object bytes are whole fits);
    };
  }

pub reads_back : (object : Object) → IsWhole object → IsObject (bytes_of object) object
reads_back object whole =
    let fits = writable object whole.limits in
    is_object object (bytes_of object) (are_sections object fits) whole fits
