-- What the reader's tests say of the sections of a written file.
use Rattle.std.proofs.Common.{◌≡◌, ◌==◌, ◌&&◌, ◌||◌, not, ◌+◌, ◌<◌, ◌≤◌, ◌++◌, ℕ, suc, Bool, true, false, cond, is_some, nat_eq, List, length, drop, refl, ap, ◌∙◌, arith, bit_and}
use Rattle.std.specs.List.{flat_map, starts_with, list_any}
use Rattle.std.proofs.lemmas.Bool.{lt-ltb, eq-eqb, ne_eqb}
use Rattle.elf_read.proofs.PlaceLemmas.{first_where-is}
use Rattle.elf_read.specs.Header.{section_count}
use Rattle.elf_read.specs.Section.{section_at, section_names, has_name, is_loaded, is_text, is_data, is_record_section, is_types, is_records, symbol_table, has_symbols}
use Rattle.elf_read.specs.declared.section.Section.{Section}
use Rattle.elf_read.specs.declared.section.TheConstants.{EH_FRAME, CFI_TYPES, CFI_RECORDS}
use Rattle.elf_read.specs.declared.object.Object.{Object}
use Rattle.elf_write.specs.declared.part.Part.{Part}
use Rattle.elf_write.specs.declared.part.Part.TheVariants.{Null, Text, Data}
use Rattle.elf_write.specs.Part.{section_name, kind_of, flags_of}
use Rattle.elf_write.specs.File.{sections_of, name_place, symbols_number}
use Rattle.elf_write.proofs.SizeLemmas.{parts_count}
use Rattle.elf_write.proofs.TableLemmas.{drop-flat_map}
use Rattle.elf_write.proofs.HeaderLemmas.{part_of}
use Rattle.elf_write.proofs.SectionLemmas.{AreSections, written_section}
use Rattle.elf_write.proofs.PartLemmas.{code, only_at, text_stands, data_stands, types_stand, records_stand, symbols_stand, eh_frame_named, types_named, records_named, name_ended}

-- the reader's tests by the part
loaded_by : (part : Part) (named : Bool) → named ≡ false
    → ((kind_of part == 1 || kind_of part == 8) && not (bit_and (flags_of part) 2 == 0) && not named) ≡ (code part == 1
    || code part == 2)
loaded_by Text named none = rw none refl
loaded_by Data named none = rw none refl
loaded_by _ named none = refl

record_by : (part : Part) (named : Bool)
    → (kind_of part == 1 && not (not (bit_and (flags_of part) 2 == 0)) && named) ≡ ((code part == 3 || code part == 4)
    && named)
record_by Null named = refl
record_by _ named = refl

types_by : (part : Part) → ((code part == 3 || code part == 4) && (code part == 3)) ≡ (code part == 3)
types_by Null = refl
types_by _ = refl

records_by : (part : Part) → ((code part == 3 || code part == 4) && (code part == 4)) ≡ (code part == 4)
records_by Null = refl
records_by _ = refl

text_by : (part : Part) → ((code part == 1 || code part == 2)
    && not (bit_and (flags_of part) 4 == 0)) ≡ (code part == 1)
text_by Null = refl
text_by _ = refl

data_by : (part : Part) → ((code part == 1 || code part == 2)
    && not (not (bit_and (flags_of part) 4 == 0))) ≡ (code part == 2)
data_by Null = refl
data_by _ = refl

symbols_by : (part : Part) → (kind_of part == 2) ≡ (code part == 7)
symbols_by Null = refl
symbols_by _ = refl

module _ (object : Object) (bytes : List ℕ) (are : AreSections object bytes) where
  -- how many there are
  pub count_is : section_count bytes ≡ length (sections_of object)
  count_is = are.header.count

  -- what the name of section k begins with
  name_there : (k : ℕ) → k < length (sections_of object) → (name : List ℕ)
      → has_name bytes k name ≡ starts_with nat_eq (section_name (part_of object k)
      ++ flat_map section_name (drop (suc k) (sections_of object))) name
  unfolding has_name written_section
  name_there k within name =
      ap (λ (s : Section). starts_with nat_eq (drop s.name (section_names bytes)) name) (are.each k within)
      ∙ ap (λ (names : List ℕ). starts_with nat_eq (drop (name_place object k) names) name) are.names
      ∙ ap (λ (xs : List ℕ). starts_with nat_eq xs name) (drop-flat_map section_name (sections_of object) k Null within)

  -- and it is ended
  pub name_ends : (k : ℕ) → k < length (sections_of object)
      → list_any (λ byte. byte == 0) (drop (section_at bytes k).name (section_names bytes)) ≡ true
  unfolding written_section
  name_ends k within =
      ap (λ (s : Section). list_any (λ byte. byte == 0) (drop s.name (section_names bytes))) (are.each k within)
      ∙ ap (λ (names : List ℕ). list_any (λ byte. byte == 0) (drop (name_place object k) names)) are.names
      ∙ ap (λ (xs : List ℕ). list_any (λ byte. byte == 0) xs) (drop-flat_map section_name (sections_of object) k Null within)
      ∙ name_ended (part_of object k) _

  pub types_name : (k : ℕ) → k < length (sections_of object)
      → has_name bytes k CFI_TYPES.now ≡ (code (part_of object k) == 3)
  types_name k within = name_there k within CFI_TYPES.now ∙ types_named (part_of object k) _

  pub records_name : (k : ℕ) → k < length (sections_of object)
      → has_name bytes k CFI_RECORDS.now ≡ (code (part_of object k) == 4)
  records_name k within = name_there k within CFI_RECORDS.now ∙ records_named (part_of object k) _

  pub loaded_part : (k : ℕ) → k < length (sections_of object)
      → is_loaded bytes k ≡ (code (part_of object k) == 1 || code (part_of object k) == 2)
  unfolding is_loaded written_section
  loaded_part k within =
      let named = name_there k within EH_FRAME.now ∙ eh_frame_named (part_of object k) _ in
      ap (λ (s : Section). (s.kind == 1 || s.kind == 8) && not (bit_and s.flags 2 == 0)
      && not (has_name bytes k EH_FRAME.now)) (are.each k within)
      ∙ loaded_by (part_of object k) (has_name bytes k EH_FRAME.now) named

  pub text_part : (k : ℕ) → k < length (sections_of object) → is_text bytes k ≡ (code (part_of object k) == 1)
  unfolding is_text written_section
  text_part k within =
      ap (λ (s : Section). is_loaded bytes k && not (bit_and s.flags 4 == 0)) (are.each k within)
      ∙ ap (λ b. b && not (bit_and (flags_of (part_of object k)) 4 == 0)) (loaded_part k within)
      ∙ text_by (part_of object k)

  pub data_part : (k : ℕ) → k < length (sections_of object) → is_data bytes k ≡ (code (part_of object k) == 2)
  unfolding is_data written_section
  data_part k within =
      ap (λ (s : Section). is_loaded bytes k && not (not (bit_and s.flags 4 == 0))) (are.each k within)
      ∙ ap (λ b. b && not (not (bit_and (flags_of (part_of object k)) 4 == 0))) (loaded_part k within)
      ∙ data_by (part_of object k)

  record_part : (k : ℕ) (name : List ℕ) → k < length (sections_of object)
      → is_record_section bytes name k ≡ ((code (part_of object k) == 3 || code (part_of object k) == 4)
      && has_name bytes k name)
  unfolding is_record_section written_section
  record_part k name within =
      ap (λ (s : Section). s.kind == 1 && not (not (bit_and s.flags 2 == 0))
      && has_name bytes k name) (are.each k within)
      ∙ record_by (part_of object k) (has_name bytes k name)

  pub types_part : (k : ℕ) → k < length (sections_of object) → is_types bytes k ≡ (code (part_of object k) == 3)
  types_part k within =
      record_part k CFI_TYPES.now within
      ∙ ap (λ b. (code (part_of object k) == 3 || code (part_of object k) == 4) && b) (types_name k within)
      ∙ types_by (part_of object k)

  pub records_part : (k : ℕ) → k < length (sections_of object) → is_records bytes k ≡ (code (part_of object k) == 4)
  records_part k within =
      record_part k CFI_RECORDS.now within
      ∙ ap (λ b. (code (part_of object k) == 3 || code (part_of object k) == 4) && b) (records_name k within)
      ∙ records_by (part_of object k)

  -- the same by number
  pub text_at : (k : ℕ) → k < length (sections_of object) → is_text bytes k ≡ (k == 1)
  text_at k within = text_part k within
      ∙ only_at 1 1 true (sections_of object) k (text_stands (is_some object.types) (is_some object.records)) within

  pub data_at : (k : ℕ) → k < length (sections_of object) → is_data bytes k ≡ (k == 2)
  data_at k within = data_part k within
      ∙ only_at 2 2 true (sections_of object) k (data_stands (is_some object.types) (is_some object.records)) within

  pub types_at : (k : ℕ) → k < length (sections_of object) → is_types bytes k ≡ (is_some object.types && k == 3)
  types_at k within = types_part k within
      ∙ only_at 3 3 (is_some object.types) (sections_of object) k (types_stand (is_some object.types) (is_some
      object.records)) within

  pub records_at : (k : ℕ) → k < length (sections_of object)
      → is_records bytes k ≡ (is_some object.records && k == 3 + cond (is_some object.types) 1 0)
  records_at k within = records_part k within
      ∙ only_at 4 (3 + cond (is_some object.types) 1 0) (is_some object.records) (sections_of object) k (records_stand
      (is_some object.types) (is_some object.records)) within

  -- the symbol table is there, and links to the names
  pub enough : 8 ≤ length (sections_of object)
  enough = omega (arith, parts_count (is_some object.types) (is_some object.records))

  symbols_kind : (k : ℕ) → k < length (sections_of object)
      → ((section_at bytes k).kind == 2) ≡ (k == symbols_number object)
  unfolding written_section
  symbols_kind k within = ap (λ (s : Section). s.kind == 2) (are.each k within) ∙ symbols_by (part_of object k)
      ∙ only_at 7 (symbols_number object) true (sections_of object) k (symbols_stand (is_some object.types) (is_some
      object.records)) within

  pub symbol_table_is : symbol_table bytes ≡ symbols_number object
  symbol_table_is =
      let count = parts_count (is_some object.types) (is_some object.records) in
      let number = symbols_number object in
      first_where-is (λ k. (section_at bytes k).kind == 2) (section_count bytes) number (omega (arith, count, count_is))
      (symbols_kind number (omega (arith, count)) ∙ eq-eqb number number refl)
      (λ j below. symbols_kind j (omega (arith, count)) ∙ ne_eqb j number (λ same. absurd (omega arith)))

  pub has_symbols_is : has_symbols bytes ≡ true
  has_symbols_is = lt-ltb _ _ (omega (
    arith,
    parts_count (is_some object.types) (is_some object.records),
    count_is,
    symbol_table_is,
  ))
