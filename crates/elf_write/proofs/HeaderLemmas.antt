-- The header and the section headers of a written file, field by field.
use Rattle.std.proofs.Common.{◌≡◌, ◌+◌, ◌-◌, ◌*◌, ◌/◌, ◌%◌, ◌<◌, ◌≤◌, ◌^◌, ◌++◌, ℕ, suc, true, is_some, List, [], length, drop, get_or, refl, ap, ◌∙◌, length-append, append_assoc, arith}
use Rattle.std.proofs.lemmas.List.Sums.{count_by-le-length}
use Rattle.elf_write.specs.Contents.{is_local_symbol}
use Rattle.std.proofs.Math.Seq.{drop-append-add}
use Rattle.byteorder.specs.Numbers.{little_number-reads_back}
use Rattle.elf_read.specs.Words.{u16_at, u32_at}
use Rattle.elf_read.specs.Places.{joined}
use Rattle.elf_read.specs.Header.{is_elf32, machine_of, type_of, table_offset, section_count, entry_size}
use Rattle.elf_read.specs.Header as header
use Rattle.elf_read.specs.declared.object.Object.{Object}
use Rattle.elf_write.specs.declared.part.Part.{Part}
use Rattle.elf_write.specs.declared.part.Part.TheVariants.{Null}
use Rattle.elf_write.specs.Part.{kind_of, flags_of, alignment_of}
use Rattle.elf_write.specs.File.{sections_of, contents_of, body_of, link_of, info_of_part, table_place, header_of, part_header, file_header, bytes_of, IsWritable}
use Rattle.elf_write.proofs.SizeLemmas.{length-file_header, body-within, symbols-fit, parts_count}
use Rattle.elf_write.proofs.LimitLemmas.{length-header, count-small}
use Rattle.elf_write.proofs.TableLemmas.{drop-joined}

small_kind : (part : Part) → kind_of part < 2 ^ 32
small_kind Null = omega arith
small_kind _ = omega arith

small_flags : (part : Part) → flags_of part < 2 ^ 32
small_flags Null = omega arith
small_flags _ = omega arith

small_alignment : (part : Part) → alignment_of part < 2 ^ 32
small_alignment Null = omega arith
small_alignment _ = omega arith

small_link : (object : Object) (part : Part) → link_of object part < 2 ^ 32
small_link object Null = omega arith
small_link object _ = omega (arith, count-small (is_some object.types) (is_some object.records))

small_info : (object : Object) (part : Part) → IsWritable object → info_of_part object part < 2 ^ 32
small_info object Null writable = omega arith
small_info object _ writable = omega (arith, symbols-fit object writable, count_by-le-length is_local_symbol object.symbols)

-- a word that was written is read
pub word_read : (n : ℕ) → n < 2 ^ 32
    → n % 256 + 256 * (n / 256 ^ 1 % 256 + 256 * (n / 256 ^ 2 % 256 + 256 * (n / 256 ^ 3 % 256 + 256 * 0))) ≡ n
word_read n fits = little_number-reads_back 4 n [] fits

-- the fields of a section header at its start
pub record HasFields (object : Object) (part : Part) (name place : ℕ) (entry : List ℕ) : Type 0 where
  pub name_at : u32_at entry 0 ≡ name
  pub kind_at : u32_at entry 4 ≡ kind_of part
  pub flags_at : u32_at entry 8 ≡ flags_of part
  pub offset_at : u32_at entry 16 ≡ place
  pub size_at : u32_at entry 20 ≡ length (contents_of object part)
  pub link_at : u32_at entry 24 ≡ link_of object part
  pub info_at : u32_at entry 28 ≡ info_of_part object part
  pub alignment_at : u32_at entry 32 ≡ alignment_of part

pub fields_read : (object : Object) (part : Part) (name place : ℕ) (rest : List ℕ) → IsWritable object → name < 2 ^ 32
    → place < 2 ^ 32 → length (contents_of object part) < 2 ^ 32
    → HasFields object part name place (part_header object part name place ++ rest)
unfolding part_header u32_at
fields_read object part name place rest writable named placed sized = record {
  name_at = word_read name named;
  kind_at = word_read (kind_of part) (small_kind part);
  flags_at = word_read (flags_of part) (small_flags part);
  offset_at = word_read place placed;
  size_at = word_read (length (contents_of object part)) sized;
  link_at = word_read (link_of object part) (small_link object part);
  info_at = word_read (info_of_part object part) (small_info object part writable);
  alignment_at = word_read (alignment_of part) (small_alignment part);
}

pub half_read : (n : ℕ) → n < 2 ^ 16 → n % 256 + 256 * (n / 256 ^ 1 % 256 + 256 * 0) ≡ n
half_read n fits = little_number-reads_back 2 n [] fits

-- the header of the file
pub record HasHeader (object : Object) (bytes : List ℕ) : Type 0 where
  pub elf : is_elf32 bytes ≡ true
  pub kind : type_of bytes ≡ 1
  pub machine : machine_of bytes ≡ 243
  pub table : table_offset bytes ≡ table_place object
  pub entry : entry_size bytes ≡ 40
  pub count : section_count bytes ≡ length (sections_of object)
  pub names : header.names_number bytes ≡ length (sections_of object) - 1

pub fields_of_header : (table count : ℕ) (rest : List ℕ) → table < 2 ^ 32 → count < 2 ^ 16
    → (is_elf32 (file_header table count ++ rest) ≡ true) × (type_of (file_header table count
    ++ rest) ≡ 1) × (machine_of (file_header table count ++ rest) ≡ 243)
    × (table_offset (file_header table count ++ rest) ≡ table) × (entry_size (file_header table count ++ rest) ≡ 40)
    × (section_count (file_header table count ++ rest) ≡ count) × (header.names_number (file_header table count
    ++ rest) ≡ count - 1)
unfolding file_header u32_at u16_at
fields_of_header table count rest placed few =
    (refl, refl, refl, word_read table placed, refl, half_read count few, half_read (count - 1) (omega arith))

-- the file in three parts
unfoldable pub front_of : Object → List ℕ
front_of object = file_header (table_place object) (length (sections_of object))

unfoldable pub headers_of : Object → List ℕ
headers_of object = joined (header_of object) (length (sections_of object))

pub file_is : (object : Object)
    → bytes_of object ≡ front_of object ++ (body_of object (sections_of object) ++ headers_of object)
unfolding bytes_of front_of headers_of
file_is object = append_assoc (front_of object) (body_of object (sections_of object)) (headers_of object)

pub few_sections : (object : Object) → length (sections_of object) ≤ 10
few_sections object = omega (
  arith,
  parts_count (is_some object.types) (is_some object.records),
  count-small (is_some
      object.types) (is_some object.records),
)

pub has_header : (object : Object) → IsWritable object → HasHeader object (bytes_of object)
unfolding front_of
has_header object writable =
    let fields = fields_of_header (table_place object) (length (sections_of object)) (body_of object (sections_of
    object) ++ headers_of object)
    (body-within object writable) (omega (arith, few_sections object)) in
    rw file_is (record {
      elf = fields.0;
      kind = fields.1;
      machine = fields.2;
      table = fields.3;
      entry =
          fields.4;
      count = fields.5;
      names = fields.6;
    })

-- section header k begins where it should
pub length-front : (object : Object) → length (front_of object) ≡ 52
unfolding front_of
length-front object = length-file_header _ _

pub at_header : (object : Object) (k : ℕ) → k < length (sections_of object)
    → drop (table_place object + 40 * k) (bytes_of object) ≡ header_of object k ++ drop (40 * suc k) (headers_of object)
unfolding bytes_of front_of headers_of
at_header object k within =
    let front = front_of object ++ body_of object (sections_of object) in
    let len = length-append (front_of object) (body_of object (sections_of object)) in
    let place : table_place object + 40 * k ≡ length front + 40 * k = omega (arith, len, length-front object) in
    ap (λ n. drop n (front ++ headers_of object)) place ∙ drop-append-add front (headers_of object) (40 * k)
    ∙ drop-joined (header_of object) 40 (length (sections_of object)) k (λ j. length-header object _ _ _) within

abbrev pub part_of : Object → ℕ → Part
part_of object k = get_or (sections_of object) k Null
