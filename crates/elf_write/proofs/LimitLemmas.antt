-- A file within the limits is short.
use Rattle.std.proofs.Common.{◌≡◌, ◌==◌, ◌+◌, ◌-◌, ◌*◌, ◌%◌, ◌≤◌, ◌++◌, ℕ, suc, Bool, true, false, cond, is_some, List, [], ◌∷◌, length, filter, None, not, replicate, refl, length-append, arith, All}
use Rattle.std.specs.List.{flat_map}
use Rattle.std.proofs.lemmas.List.Filters.{length-filter_both}
use Rattle.std.proofs.lemmas.Bool.{ne_eqb}
use Rattle.std.proofs.lemmas.List.{length-replicate}
use Rattle.elf_read.specs.declared.object.Area.TheVariants as areas
use Rattle.elf_read.specs.Places.{joined}
use Rattle.elf_read.specs.declared.object.Object.{Object}
use Rattle.elf_read.specs.declared.object.Symbol.{Symbol}
use Rattle.elf_read.specs.declared.object.Reloc.{Reloc}
use Rattle.elf_read.specs.declared.object.Area.{Area}
use Rattle.elf_write.specs.declared.part.Part.{Part}
use Rattle.elf_write.specs.declared.part.Part.TheVariants.{Null, Text, Data, Types, Records, TextRelas, DataRelas, Symbols, SymbolNames, SectionNames}
use Rattle.elf_write.specs.Part.{section_name, parts_of}
use Rattle.elf_write.specs.Contents.{zero_ended, name_table, is_in, rela_entry, relas_of}
use Rattle.elf_write.specs.File.{sections_of, contents_of, padding, padded, body_of, table_place, header_of, part_header, file_header, bytes_of, IsWritable}
use Rattle.elf_write.specs.Limits.{IsWithinLimits}
use Rattle.elf_write.proofs.SizeLemmas.{length-joined, length-symbol_table, length-file_header, parts_count, name-short}

pub count-small : (types records : Bool) → cond types 1 0 + cond records 1 0 ≤ 2
count-small true true = omega arith
count-small true false = omega arith
count-small false true = omega arith
count-small false false = omega arith

-- lists of short pieces are short
pub pieces-short : {X : Type 0} (f : X → List ℕ) (size : ℕ) (xs : List X) → ((x : X) → length (f x) ≤ size)
    → length (flat_map f xs) ≤ size * length xs
pieces-short f size [] each = omega arith
pieces-short f size (x ∷ xs) each =
    let rest = pieces-short f size xs each in
    let sum = length-append (f x) (flat_map f xs) in
    let here = each x in
    let product : size * suc (length xs) ≡ size * length xs + size = omega arith in
    omega (arith, rest, sum, here, product)

pub ended-below : (name : List ℕ) → length (zero_ended name) ≤ length name + 1
ended-below [] = omega arith
ended-below (x ∷ xs) =
    let some : (length (x ∷ xs) == 0) ≡ false = ne_eqb _ _ (λ none. absurd (omega arith)) in
    let sum = length-append (x ∷ xs) (0 ∷ []) in
    rw some (omega (arith, sum))

pub padded-below : (bytes : List ℕ) → length (padded bytes) ≤ length bytes + 3
unfolding padded padding
padded-below bytes =
    let size : ℕ = (4 - length bytes % 4) % 4 in
    let sum = length-append bytes (replicate size 0) in
    let zeros = length-replicate {A = ℕ} size 0 in
    omega (arith, sum, zeros)

pub length-rela_entry : (reloc : Reloc) → length (rela_entry reloc) ≡ 12
unfolding rela_entry
length-rela_entry reloc = refl

pub length-header : (object : Object) (part : Part) (name place : ℕ) → length (part_header object part name place) ≡ 40
unfolding part_header
length-header object part name place = refl

pub filter-short : {X : Type 0} (test : X → Bool) (xs : List X) → length (filter test xs) ≤ length xs
filter-short test xs = omega (arith, length-filter_both test (λ x. not (test x)) (λ x. refl) xs)

pub relas-short : (area : Area) (relocs : List Reloc) → length (relas_of area relocs) ≤ 12 * length relocs
unfolding relas_of
relas-short area relocs =
    let kept = filter-short (is_in area) relocs in
    let each = pieces-short rela_entry 12 (filter (is_in area) relocs) (λ r. omega (arith, length-rela_entry r)) in
    omega (arith, kept, each)

names-from : (symbols : List Symbol) → All (λ symbol. length symbol.name ≤ 255) symbols
    → length (flat_map (λ (symbol : Symbol). zero_ended symbol.name) symbols) ≤ 256 * length symbols
names-from [] short = omega arith
names-from (symbol ∷ symbols) short =
    let rest = names-from symbols (λ k d within. short (suc k) d (omega arith)) in
    let here : length symbol.name ≤ 255 = short 0 symbol (omega arith) in
    let sum = length-append (zero_ended symbol.name) (flat_map (λ (s : Symbol). zero_ended s.name) symbols) in
    omega (arith, rest, here, ended-below symbol.name, sum)

pub names-short : (symbols : List Symbol) → All (λ symbol. length symbol.name ≤ 255) symbols
    → length (name_table symbols) ≤ 1 + 256 * length symbols
unfolding name_table
names-short symbols short = omega (arith, names-from symbols short)

-- no more bytes than this are in a section of an object within the limits, nor in the zeros after it
abbrev most_of : Part → ℕ
most_of Null = 3
most_of Text = 262083
most_of Data = 524291
most_of Types = 1052679
most_of Records = 23728719
most_of TextRelas = 786435
most_of DataRelas = 786435
most_of Symbols = 262163
most_of SymbolNames = 4194308
most_of SectionNames = 133

contents-short : (object : Object) → IsWithinLimits object → (part : Part)
    → length (contents_of object part) + 3 ≤ most_of part
contents-short object limits Null = omega arith
contents-short object limits Text = omega (arith, limits.text)
contents-short object limits Data = omega (arith, limits.static_data)
contents-short object limits Types = omega (arith, limits.types)
contents-short object limits Records = omega (arith, limits.records)
contents-short object limits TextRelas = omega (arith, relas-short areas.Text object.relocs, limits.relocs)
contents-short object limits DataRelas = omega (arith, relas-short areas.Data object.relocs, limits.relocs)
contents-short object limits Symbols = omega (arith, length-symbol_table object.symbols, limits.symbols)
contents-short object limits SymbolNames = omega (arith, names-short object.symbols limits.names, limits.symbols)
contents-short object limits SectionNames =
    let names = pieces-short section_name 13 (sections_of object) name-short in
    omega (
      arith,
      names,
      parts_count (is_some object.types) (is_some object.records),
      count-small (is_some object.types) (is_some object.records),
    )

-- all of some sections
abbrev all_of : List Part → ℕ
all_of [] = 0
all_of (part ∷ parts) = most_of part + all_of parts

body-short : (object : Object) → IsWithinLimits object → (parts : List Part)
    → length (body_of object parts) ≤ all_of parts
body-short object limits [] = omega arith
body-short object limits (part ∷ parts) =
    let rest = body-short object limits parts in
    let sum = length-append (padded (contents_of object part)) (body_of object parts) in
    omega (arith, rest, sum, padded-below (contents_of object part), contents-short object limits part)

sections-short : (types records : Bool) → all_of (parts_of types records) ≤ 31597250
sections-short true true = omega arith
sections-short true false = omega arith
sections-short false true = omega arith
sections-short false false = omega arith

-- so the file is short
pub file-short : (object : Object) → IsWithinLimits object → length (bytes_of object) ≤ 50331647
unfolding bytes_of
file-short object limits =
    let sections = sections_of object in
    let header = file_header (table_place object) (length sections) in
    let headers = joined (header_of object) (length sections) in
    let front = length-append header (body_of object sections) in
    let all = length-append (header ++ body_of object sections) headers in
    let body = body-short object limits sections in
    let sizes = sections-short (is_some object.types) (is_some object.records) in
    let table = length-joined (header_of object) 40 (length sections) (λ k. length-header object _ _ _) in
    let count = parts_count (is_some object.types) (is_some object.records) in
    let few = count-small (is_some object.types) (is_some object.records) in
    omega (arith, front, all, body, sizes, table, count, few, length-file_header (table_place object) (length sections))

pub writable : (object : Object) → IsWithinLimits object → IsWritable object
writable object limits = record { size = omega (arith, file-short object limits); infos = limits.infos }

-- the empty object
pub empty : Object
empty = record { text = []; static_data = []; symbols = []; relocs = []; types = None; records = None }

pub empty_fits : IsWithinLimits empty
unfolding empty
empty_fits = record {
  text = omega arith;
  static_data = omega arith;
  symbols = omega arith;
  relocs = omega arith;
  types = omega arith;
  records = omega arith;
  names = λ k d within. absurd (omega arith);
  infos = λ k d within. absurd (omega arith);
}
