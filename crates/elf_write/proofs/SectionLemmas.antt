-- The sections of a written file, as the reader's definitions see them.
use Rattle.std.proofs.Common.{◌≡◌, ◌==◌, ◌+◌, ◌-◌, ◌*◌, ◌<◌, ◌≤◌, ◌^◌, ◌++◌, ℕ, zero, suc, Bool, true, false, is_some, List, length, take, drop, get_or, refl, ap, ◌∙◌, length-append, append_assoc, arith}
use Rattle.std.specs.List.{flat_map}
use Rattle.std.proofs.lemmas.Bool.{ne_eqb}
use Rattle.std.proofs.lemmas.List.{drop-append-le}
use Rattle.std.proofs.lemmas.List.Folds.{length-flat_map-take}
use Rattle.std.proofs.Math.Seq.{drop-append-add, take-append_seam}
use Rattle.elf_read.specs.Words.{u32_at}
use Rattle.elf_read.specs.Header.{table_offset}
use Rattle.elf_read.specs.Section.{section_at, contents, section_names}
use Rattle.elf_read.specs.declared.section.Section.{Section}
use Rattle.elf_read.specs.declared.object.Object.{Object}
use Rattle.elf_write.specs.declared.part.Part.{Part}
use Rattle.elf_write.specs.declared.part.Part.TheVariants.{Null, SectionNames}
use Rattle.elf_write.specs.Part.{parts_of, section_name, kind_of, flags_of, alignment_of}
use Rattle.elf_write.specs.File.{sections_of, contents_of, padding, padded, body_of, link_of, info_of_part, name_place, section_place, table_place, header_of, bytes_of, IsWritable}
use Rattle.elf_write.proofs.SizeLemmas.{length-joined, part-within, parts_count, padded-above, name-short}
use Rattle.elf_write.proofs.LimitLemmas.{pieces-short, length-header}
use Rattle.elf_write.proofs.TableLemmas.{u32_in, drop-flat_map}
use Rattle.elf_write.proofs.HeaderLemmas.{HasHeader, has_header, fields_read, front_of, headers_of, length-front, file_is, at_header, part_of, few_sections}

-- what the reader has of section k
unfoldable pub written_section : Object → (k : ℕ) → Section
written_section object k =
    let part = part_of object k in
    record {
      name = name_place object k;
      kind = kind_of part;
      flags = flags_of part;
      offset = section_place object k;
      size = length (contents_of object part);
      link = link_of object part;
      info = info_of_part object part;
      alignment = alignment_of part;
    }

name_place-small : (object : Object) (k : ℕ) → k < length (sections_of object) → name_place object k < 2 ^ 32
name_place-small object k within =
    let all = length-flat_map-take section_name (sections_of object) k Null within in
    let names = pieces-short section_name 13 (sections_of object) name-short in
    omega (arith, all, names, few_sections object)

place-small : (object : Object) (k : ℕ) → IsWritable object → k < length (sections_of object)
    → section_place object k < 2 ^ 32
unfolding section_place
place-small object zero writable within = omega arith
place-small object (suc k) writable within =
    let some : (suc k == 0) ≡ false = ne_eqb _ _ (λ none. absurd (omega arith)) in
    rw some (omega (arith, part-within object (suc k) writable within))

pub section_is : (object : Object) (k : ℕ) → IsWritable object → k < length (sections_of object)
    → section_at (bytes_of object) k ≡ written_section object k
unfolding section_at written_section
section_is object k writable within =
    let bytes = bytes_of object in
    let at = table_offset bytes + 40 * k in
    let rest = drop (40 * suc k) (headers_of object) in
    let entry = header_of object k ++ rest in
    let there : drop at bytes ≡ entry = ap (λ n. drop (n + 40 * k) bytes) (has_header object writable).table
    ∙ at_header object k within in
    let size = part-within object k writable within in
    let fields = fields_read object (part_of object k) (name_place object k) (section_place object k) rest writable
    (name_place-small object k within) (place-small object k writable within) (omega (arith, size)) in
    let first : u32_at bytes at ≡ u32_at bytes (at + 0) = ap (λ n. u32_at bytes n) (omega arith) in
    let name = first ∙ u32_in bytes entry at 0 there ∙ fields.name_at in
    let kind = u32_in bytes entry at 4 there ∙ fields.kind_at in
    let flags = u32_in bytes entry at 8 there ∙ fields.flags_at in
    let offset = u32_in bytes entry at 16 there ∙ fields.offset_at in
    let size = u32_in bytes entry at 20 there ∙ fields.size_at in
    let link = u32_in bytes entry at 24 there ∙ fields.link_at in
    let info = u32_in bytes entry at 28 there ∙ fields.info_at in
    let alignment = u32_in bytes entry at 32 there ∙ fields.alignment_at in
    λ i. record {
      name = name i;
      kind = kind i;
      flags = flags i;
      offset = offset i;
      size = size i;
      link =
          link i;
      info = info i;
      alignment = alignment i;
    }

-- where the contents of a section stand
held : (object : Object) (k : ℕ) → k < length (sections_of object)
    → take (length (contents_of object (part_of object k))) (drop (section_place object k) (bytes_of object)) ≡ contents_of
    object (part_of object k)
unfolding section_place padded
held object zero within = refl
held object (suc k) within =
    let sections = sections_of object in
    let body = body_of object sections in
    let held_there = contents_of object (get_or sections (suc k) Null) in
    let before = length (body_of object (take (suc k) sections)) in
    let pieces = λ (part : Part). padded (contents_of object part) in
    let more = flat_map pieces (drop (suc (suc k)) sections) in
    let some : (suc k == 0) ≡ false = ne_eqb _ _ (λ none. absurd (omega arith)) in
    let place : section_place object (suc k) ≡ length (front_of object) + before =
    rw some (omega (arith, length-front object)) in
    let within_body = length-flat_map-take pieces sections (suc k) Null within in
    let start : drop (section_place object (suc k)) (bytes_of object) ≡ drop before (body ++ headers_of object)
    = ap (λ n. drop n (bytes_of object)) place
    ∙ ap (λ (xs : List ℕ). drop (length (front_of object) + before) xs) (file_is object)
    ∙ drop-append-add (front_of object) (body ++ headers_of object) before in
    let cut : drop before (body ++ headers_of object) ≡ drop before body ++ headers_of object =
    drop-append-le before body (headers_of object) (omega (arith, within_body)) in
    let piece : drop before body ≡ pieces (get_or sections (suc k) Null) ++ more =
    drop-flat_map pieces sections (suc k) Null within in
    let padding_there = padding (length held_there) in
    let whole : drop (section_place object (suc k)) (bytes_of object) ≡ held_there ++ (padding_there ++ (more
    ++ headers_of object))
    = start ∙ cut ∙ ap (λ (xs : List ℕ). xs ++ headers_of object) piece
    ∙ append_assoc (held_there ++ padding_there) more (headers_of object)
    ∙ append_assoc held_there padding_there (more ++ headers_of object) in
    ap (λ (xs : List ℕ). take (length held_there) xs) whole
    ∙ take-append_seam held_there (padding_there ++ (more ++ headers_of object))

pub contents_are : (object : Object) (k : ℕ) → IsWritable object → k < length (sections_of object)
    → contents (bytes_of object) k ≡ contents_of object (part_of object k)
unfolding contents written_section
contents_are object k writable within =
    ap (λ (s : Section). take s.size (drop s.offset (bytes_of object))) (section_is object k writable within)
    ∙ held object k within

-- its contents are within the file
pub contents-within : (object : Object) (k : ℕ) → IsWritable object → k < length (sections_of object)
    → section_place object k + length (contents_of object (part_of object k)) ≤ length (bytes_of object)
unfolding section_place
contents-within object zero writable within = omega arith
contents-within object (suc k) writable within =
    let sections = sections_of object in
    let body = body_of object sections in
    let held_there = contents_of object (get_or sections (suc k) Null) in
    let some : (suc k == 0) ≡ false = ne_eqb _ _ (λ none. absurd (omega arith)) in
    let place : section_place object (suc k) ≡ 52 + length (body_of object (take (suc k) sections)) = rw some refl in
    let within_body = length-flat_map-take
    (λ (part : Part). padded (contents_of object part)) sections (suc k) Null within in
    let all : length (bytes_of object) ≡ length (front_of object ++ (body ++ headers_of object)) =
    ap length (file_is object) in
    let first = length-append (front_of object) (body ++ headers_of object) in
    let second = length-append body (headers_of object) in
    omega (arith, place, within_body, all, first, second, length-front object, padded-above held_there)

-- the last section has the names
last_at : (types records : Bool)
    → get_or (parts_of types records) (length (parts_of types records) - 1) Null ≡ SectionNames
last_at true true = refl
last_at true false = refl
last_at false true = refl
last_at false false = refl

pub names_are : (object : Object) → IsWritable object
    → section_names (bytes_of object) ≡ flat_map section_name (sections_of object)
names_are object writable =
    let header = has_header object writable in
    let count = parts_count (is_some object.types) (is_some object.records) in
    let last = length (sections_of object) - 1 in
    ap (λ k. contents (bytes_of object) k) header.names ∙ contents_are object last writable (omega (arith, count))
    ∙ ap (λ (part : Part). contents_of object part) (last_at (is_some object.types) (is_some object.records))

-- what the reader has of the sections of a written file
pub record AreSections (object : Object) (bytes : List ℕ) : Type 0 where
  pub header : HasHeader object bytes
  pub each : (k : ℕ) → k < length (sections_of object) → section_at bytes k ≡ written_section object k
  pub held : (k : ℕ) → k < length (sections_of object) → contents bytes k ≡ contents_of object (part_of object k)
  pub inside : (k : ℕ) → k < length (sections_of object)
      → section_place object k + length (contents_of object (part_of object k)) ≤ length bytes
  pub names : section_names bytes ≡ flat_map section_name (sections_of object)
  pub room : table_place object + 40 * length (sections_of object) ≤ length bytes

table-within : (object : Object) → table_place object + 40 * length (sections_of object) ≤ length (bytes_of object)
unfolding headers_of
table-within object =
    let body = body_of object (sections_of object) in
    let all : length (bytes_of object) ≡ length (front_of object ++ (body ++ headers_of object)) =
    ap length (file_is object) in
    let first = length-append (front_of object) (body ++ headers_of object) in
    let second = length-append body (headers_of object) in
    let table = length-joined (header_of object) 40 (length (sections_of object)) (λ k. length-header object _ _ _) in
    omega (arith, all, first, second, table, length-front object)

pub are_sections : (object : Object) → IsWritable object → AreSections object (bytes_of object)
are_sections object writable = record {
  header = has_header object writable;
  each = λ k within. section_is object k writable within;
  held = λ k within. contents_are object k writable within;
  inside = λ k within. contents-within object k writable within;
  names = names_are object writable;
  room = table-within object;
}
