-- The sections of a written file break no rule.
use Rattle.std.proofs.Common.{◌≡◌, ◌==◌, ◌&&◌, ◌||◌, not, ◌+◌, ◌%◌, ◌<◌, ◌≤◌, ℕ, Bool, true, false, cond, is_some, nat_lt, nat_le, List, length, get_or, Option, Some, None, refl, sym, ap, ◌∙◌, arith, ⊎_elim, bit_and}
use Rattle.std.specs.Int.{is_power_of_two}
use Rattle.std.proofs.lemmas.Bool.{cases_Bool, and_parts, eqb-true, ne_eqb, eq-eqb, lt-ltb, le-ltb, false≢true}
use Rattle.elf_read.proofs.PlaceLemmas.{first_where-is, first_where-none}
use Rattle.elf_read.specs.Places.{first_where}
use Rattle.elf_read.specs.Header.{section_count}
use Rattle.elf_read.specs.Section.{section_at, contents, has_name, is_loaded, is_record_section, is_types, is_records, is_kept, is_short, symbol_table, has_symbols, has_kind}
use Rattle.elf_read.specs.BadSection.{is_refused, is_bad_text, is_misaligned, is_second, is_bad_symbol_table, is_bad_target, is_bad_rela, is_named, is_bad_section}
use Rattle.elf_read.specs.Object.{record_bytes}
use Rattle.elf_read.specs.declared.section.Section.{Section}
use Rattle.elf_read.specs.declared.section.TheConstants.{CFI_TYPES, CFI_RECORDS}
use Rattle.elf_read.specs.declared.object.Object.{Object}
use Rattle.elf_read.specs.declared.object.Area.TheVariants as areas
use Rattle.elf_write.specs.declared.part.Part.{Part}
use Rattle.elf_write.specs.declared.part.Part.TheVariants.{Null, Text, Types, Records, TextRelas, DataRelas, Symbols}
use Rattle.elf_write.specs.Part.{parts_of, kind_of, flags_of, alignment_of}
use Rattle.elf_write.specs.Contents.{rela_entry, relas_of}
use Rattle.elf_write.specs.File.{sections_of, contents_of, bytes_or_none, symbols_number, names_number, link_of, info_of_part, IsWritable}
use Rattle.elf_write.specs.Whole.{IsWhole}
use Rattle.elf_write.proofs.SizeLemmas.{parts_count, names_at, length-symbol_table}
use Rattle.elf_write.proofs.LimitLemmas.{length-rela_entry}
use Rattle.elf_write.proofs.HeaderLemmas.{part_of}
use Rattle.elf_write.proofs.SectionLemmas.{AreSections, written_section}
use Rattle.elf_write.proofs.PartLemmas.{code, only_at, types_stand, records_stand}
use Rattle.elf_write.proofs.KindLemmas.{count_is, enough, text_part, types_name, records_name, types_at, records_at, name_ends, symbol_table_is, has_symbols_is}
use Rattle.elf_write.proofs.ListLemmas.{length-pieces}
use Rattle.elf_write.proofs.RelaLemmas.{rela_part, of_area}

one_more : (b : Bool) → 3 + cond b 1 0 ≤ 4
one_more true = omega arith
one_more false = omega arith

and-false : (b : Bool) → (b && false) ≡ false
and-false true = refl
and-false false = refl

types_place : (types records : Bool) → types ≡ true → get_or (parts_of types records) 3 Null ≡ Types
types_place true true is = refl
types_place true false is = refl
types_place false records is = absurd (false≢true is)

records_place : (types records : Bool) → records ≡ true
    → get_or (parts_of types records) (3 + cond types 1 0) Null ≡ Records
records_place true true is = refl
records_place false true is = refl
records_place types false is = absurd (false≢true is)

refused_by : (part : Part) → (not (bit_and (flags_of part) 2 == 0) && (not (bit_and (flags_of part) 0x400 == 0)
    || (nat_le 14 (kind_of part) && nat_le (kind_of part) 16))) ≡ false
refused_by Null = refl
refused_by _ = refl

alignment_by : (part : Part) (kept : Bool)
    → (kept && not (alignment_of part == 0) && not (is_power_of_two (alignment_of part))) ≡ false
unfolding lib.Count.ones
alignment_by Null kept = ap (λ b. b && not (is_power_of_two 0)) (and-false kept)
alignment_by _ kept = and-false _

-- of a test that one number alone passes, there is no second
no_second : (test : ℕ → Bool) (count number : ℕ) (there : Bool) → ((k : ℕ) → k < count
    → test k ≡ (there && k == number)) → (k : ℕ) → k < count → (test k && nat_lt (first_where test count) k) ≡ false
no_second test count number there only k within = ⊎_elim
    (λ (is : test k ≡ true).
    let parts = and_parts there (k == number) (sym (only k within) ∙ is) in
    let same : k ≡ number = eqb-true _ _ parts.1 in
    let first = first_where-is test count k within is (λ j below.
    let other : (j == number) ≡ false = ne_eqb _ _ (λ equal. absurd (omega arith)) in
    only j (omega arith) ∙ ap (λ b. there && b) other ∙ and-false there) in
    let not_before : nat_lt (first_where test count) k ≡ false = le-ltb _ _ (omega (arith, first)) in
    rw (is, not_before) refl)
    (λ (none : test k ≡ false). rw none refl)
    (cases_Bool (test k))

-- and it is found, or not there
found : (test : ℕ → Bool) (give : ℕ → List ℕ) (count number : ℕ) (held : Option (List ℕ)) → ((k : ℕ) → k < count
    → test k ≡ (is_some held && k == number)) → number < count
    → (is_some held ≡ true → give number ≡ bytes_or_none held)
    → cond (nat_lt (first_where test count) count) (Some (give (first_where test count))) None ≡ held
found test give count number None only within holds =
    let first = first_where-none test count (λ j below. only j below) in
    let none : nat_lt (first_where test count) count ≡ false = le-ltb _ _ (omega (arith, first)) in
    rw none refl
found test give count number (Some bytes) only within holds =
    let here : (number == number) ≡ true = eq-eqb _ _ refl in
    let first = first_where-is test count number within (only number within ∙ here)
    (λ j below. only j (omega arith) ∙ ne_eqb j number (λ same. absurd (omega arith))) in
    let some : nat_lt (first_where test count) count ≡ true = lt-ltb _ _ (omega (arith, first)) in
    rw some (ap (λ k. Some (give k)) first ∙ ap (λ xs. Some xs) (holds refl))

module _ (object : Object) (bytes : List ℕ) (are : AreSections object bytes) (whole : IsWhole object) (fits :
    IsWritable object) where
  there : (k : ℕ) → k < section_count bytes → k < length (sections_of object)
  there k within = omega (arith, within, count_is object bytes are)

  refused : (k : ℕ) → k < length (sections_of object) → is_refused bytes k ≡ false
  unfolding is_refused written_section
  refused k within = ap (λ (s : Section). not (bit_and s.flags 2 == 0) && (not (bit_and s.flags 0x400 == 0)
      || (nat_le 14 s.kind && nat_le s.kind 16))) (are.each k within)
      ∙ refused_by (part_of object k)

  text_by : (part : Part) → (code part == 1 && (kind_of part == 8
      || not (length (contents_of object part) % 4 == 0))) ≡ false
  text_by Text = ap not (eq-eqb _ _ whole.words)
  text_by _ = refl

  bad_text : (k : ℕ) → k < length (sections_of object) → is_bad_text bytes k ≡ false
  unfolding is_bad_text written_section
  bad_text k within = ap (λ b. b && ((section_at bytes k).kind == 8
      || not ((section_at bytes k).size % 4 == 0))) (text_part object bytes are k within)
      ∙ ap (λ (s : Section). code (part_of object k) == 1 && (s.kind == 8
      || not (s.size % 4 == 0))) (are.each k within) ∙ text_by (part_of object k)

  misaligned : (k : ℕ) → k < length (sections_of object) → is_misaligned bytes k ≡ false
  unfolding is_misaligned written_section
  misaligned k within = ap (λ (s : Section). is_kept bytes k && not (s.alignment == 0)
      && not (is_power_of_two s.alignment)) (are.each k within)
      ∙ alignment_by (part_of object k) (is_kept bytes k)

  second_types : (k : ℕ) → k < section_count bytes → is_second bytes CFI_TYPES.now k ≡ false
  unfolding is_second
  second_types k within = no_second (λ j. has_name bytes j CFI_TYPES.now) (section_count bytes) 3 (is_some object.types)
      (λ j below. types_name object bytes are j (there j below)
      ∙ only_at 3 3 (is_some object.types) (sections_of object) j (types_stand (is_some object.types) (is_some
      object.records)) (there j below)) k within

  second_records : (k : ℕ) → k < section_count bytes → is_second bytes CFI_RECORDS.now k ≡ false
  unfolding is_second
  second_records k within = no_second (λ j. has_name bytes j CFI_RECORDS.now) (section_count bytes) (3
      + cond (is_some object.types) 1 0) (is_some object.records)
      (λ j below. records_name object bytes are j (there j below)
      ∙ only_at 4 (3 + cond (is_some object.types) 1 0) (is_some object.records) (sections_of object) j (records_stand
      (is_some object.types) (is_some object.records)) (there j below)) k within

  -- the symbol table's names are a table of names
  names_kind : has_kind bytes 3 (names_number object) ≡ true
  unfolding written_section
  names_kind =
      let count = parts_count (is_some object.types) (is_some object.records) in
      let within : names_number object < length (sections_of object) = omega (arith, count) in
      let inside : nat_lt (names_number object) (section_count bytes) ≡ true =
      lt-ltb _ _ (omega (arith, within, count_is object bytes are)) in
      let kind : ((section_at bytes (names_number object)).kind == 3) ≡ true =
      ap (λ (s : Section). s.kind == 3) (are.each (names_number object) within)
      ∙ ap (λ (p : Part). kind_of p == 3) (names_at (is_some object.types) (is_some object.records)) in
      rw (inside, kind) refl

  table_by : (part : Part) → (kind_of part == 2 && (not (length (contents_of object part) % 16 == 0)
      || not (has_kind bytes 3 (link_of object part)))) ≡ false
  table_by Symbols =
      let size = length-symbol_table object.symbols in
      let even : (length (contents_of object Symbols) % 16 == 0) ≡ true = eq-eqb _ _ (omega (arith, size)) in
      rw (even, names_kind) refl
  table_by _ = refl

  bad_table : (k : ℕ) → k < length (sections_of object) → is_bad_symbol_table bytes k ≡ false
  unfolding is_bad_symbol_table written_section
  bad_table k within = ap (λ (s : Section). s.kind == 2 && (not (s.size % 16 == 0)
      || not (has_kind bytes 3 s.link))) (are.each k within) ∙ table_by (part_of object k)

  no_types : (k : ℕ) → k < 3 → is_types bytes k ≡ false
  no_types k below = types_at object bytes are k (omega (arith, enough object bytes are))
      ∙ ap (λ b. is_some object.types && b) (ne_eqb k 3 (λ same. absurd (omega arith))) ∙ and-false _

  no_records : (k : ℕ) → k < 3 → is_records bytes k ≡ false
  no_records k below = records_at object bytes are k (omega (arith, enough object bytes are))
      ∙ ap (λ b. is_some object.records
      && b) (ne_eqb k (3 + cond (is_some object.types) 1 0) (λ same. absurd (omega arith))) ∙ and-false _

  target_by : (part : Part) → (nat_lt (info_of_part object part) (section_count bytes)
      && (((kind_of part == 4 || kind_of part == 9) && (is_types bytes (info_of_part object part)
      || is_records bytes (info_of_part object part)))
      || (kind_of part == 9 && is_loaded bytes (info_of_part object part)))) ≡ false
  target_by TextRelas = rw (no_types 1 (omega arith), no_records 1 (omega arith)) (and-false _)
  target_by DataRelas = rw (no_types 2 (omega arith), no_records 2 (omega arith)) (and-false _)
  target_by _ = and-false _

  bad_target : (k : ℕ) → k < length (sections_of object) → is_bad_target bytes k ≡ false
  unfolding is_bad_target written_section
  bad_target k within = ap (λ (s : Section). nat_lt s.info (section_count bytes)
      && (((s.kind == 4 || s.kind == 9) && (is_types bytes s.info || is_records bytes s.info)) || (s.kind == 9
      && is_loaded bytes s.info))) (are.each k within)
      ∙ target_by (part_of object k)

  linked : (symbols_number object == symbol_table bytes) ≡ true
  linked = eq-eqb _ _ (sym (symbol_table_is object bytes are))

  entries_by : (part : Part) → ((code part == 5 || code part == 6)
      && (not (length (contents_of object part) % 12 == 0) || not (has_symbols bytes)
      || not (link_of object part == symbol_table bytes))) ≡ false
  unfolding relas_of
  entries_by TextRelas =
      let size = length-pieces rela_entry 12 (of_area object areas.Text) length-rela_entry in
      let even : (length (contents_of object TextRelas) % 12 == 0) ≡ true = eq-eqb _ _ (omega (arith, size)) in
      rw (even, has_symbols_is object bytes are, linked) refl
  entries_by DataRelas =
      let size = length-pieces rela_entry 12 (of_area object areas.Data) length-rela_entry in
      let even : (length (contents_of object DataRelas) % 12 == 0) ≡ true = eq-eqb _ _ (omega (arith, size)) in
      rw (even, has_symbols_is object bytes are, linked) refl
  entries_by _ = refl

  bad_rela : (k : ℕ) → k < length (sections_of object) → is_bad_rela bytes k ≡ false
  unfolding is_bad_rela written_section
  bad_rela k within = ap (λ b. b && (not ((section_at bytes k).size % 12 == 0) || not (has_symbols bytes)
      || not ((section_at bytes k).link == symbol_table bytes)))
      (rela_part object bytes are whole fits k within)
      ∙ ap (λ (s : Section). (code (part_of object k) == 5 || code (part_of object k) == 6) && (not (s.size % 12 == 0)
      || not (has_symbols bytes) || not (s.link == symbol_table bytes))) (are.each k within)
      ∙ entries_by (part_of object k)

  named : (k : ℕ) → k < length (sections_of object) → is_named bytes k ≡ true
  unfolding is_named
  named k within = name_ends object bytes are k within

  pub good_section : (k : ℕ) → k < section_count bytes → is_bad_section bytes k ≡ false
  unfolding is_bad_section
  good_section k within =
      let here = there k within in
      rw (
        refused k here,
        bad_text k here,
        misaligned k here,
        second_types k within,
        second_records k within,
        bad_table
            k here,
        bad_target k here,
        bad_rela k here,
        named k here,
      ) refl

  -- its contents are in the file
  pub not_short : (k : ℕ) → k < section_count bytes → is_short bytes k ≡ false
  unfolding is_short written_section
  not_short k within =
      let here = there k within in
      let inside : nat_lt (length bytes) ((section_at bytes k).offset + (section_at bytes k).size) ≡ false
      = ap (λ (s : Section). nat_lt (length bytes) (s.offset + s.size)) (are.each k here)
      ∙ le-ltb _ _ (are.inside k here) in
      rw inside (and-false _)

  -- what it has of types and records
  pub types_are : record_bytes bytes CFI_TYPES.now ≡ object.types
  unfolding record_bytes
  types_are = found (is_record_section bytes CFI_TYPES.now) (λ k. contents bytes k) (section_count bytes) 3 object.types
      (λ k within. types_at object bytes are k (there k within))
      (omega (arith, enough object bytes are, count_is object bytes are))
      (λ is. are.held 3 (omega (arith, enough object bytes are))
      ∙ ap (λ (p : Part). contents_of object p) (types_place (is_some object.types) (is_some object.records) is))

  pub records_are : record_bytes bytes CFI_RECORDS.now ≡ object.records
  unfolding record_bytes
  records_are =
      let number = 3 + cond (is_some object.types) 1 0 in
      let fourth : number ≤ 4 = one_more (is_some object.types) in
      found (is_record_section bytes CFI_RECORDS.now) (λ k. contents bytes k) (section_count bytes) (3
      + cond (is_some object.types) 1 0) object.records
      (λ k within. records_at object bytes are k (there k within))
      (omega (arith, enough object bytes are, count_is object bytes are, fourth))
      (λ is. are.held number (omega (arith, enough object bytes are, fourth))
      ∙ ap (λ (p : Part). contents_of object p) (records_place (is_some object.types) (is_some object.records) is))
